-- A registry area of which nothing was asked, and one that was only read twice.
use Rattle.std.proofs.Common.{◌≡◌, ℕ, ◌≤◌, List, inr, ⊎_elim, refl, ◌∙◌, arith}
use Rattle.outside.specs.Moments.{started}
use Rattle.outside.specs.declared.disk.Disk.{Ghosts as DiskGhosts}
use Rattle.file_progress.specs.OnlyReads.{IsOnlyReadBy}

module _ {D : Type 0} (disk : DiskGhosts D) where
  pub unasked : (one : D) → ((image : List ℕ) → disk.images_since one (disk.moment one) image → disk.images one image) → IsOnlyReadBy disk one one
  unasked one here = record {
    contents_kept = refl;
    images_kept = λ image is. is;
    each_moment = started disk.moment disk.images_since one (disk.images one) here;
    faults_kept = omega arith;
  }

  pub both : (old mid new : D) → IsOnlyReadBy disk old mid → IsOnlyReadBy disk mid new → IsOnlyReadBy disk old new
  both old mid new first second = record {
    contents_kept = second.contents_kept ∙ first.contents_kept;
    images_kept = λ image is. first.images_kept image (second.images_kept image is);
    each_moment = record {
      later = omega (arith, first.each_moment.later, second.each_moment.later);
      each = λ image left. ⊎_elim (first.each_moment.each image) (first.images_kept image) (second.each_moment.before (disk.moment old) image first.each_moment.later left);
      before = λ start image le left. ⊎_elim (first.each_moment.before start image le) (λ is. inr (first.images_kept image is))
          (second.each_moment.before start image (omega (arith, le, first.each_moment.later)) left);
    };
    faults_kept = omega (arith, first.faults_kept, second.faults_kept);
  }
