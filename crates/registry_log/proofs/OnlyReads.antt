-- Calls that only read, one after another.
use Rattle.std.proofs.Common.{◌≡◌, ℕ, ◌≤◌, List, Option, refl, ◌∙◌, arith}
use Rattle.outside.specs.DiskImages.{Elapses}
use Rattle.outside.specs.Moments.{goes_on, started}
use Rattle.registry_log.specs.OnlyRead.{IsOnlyRead}
use Rattle.registry_log.proofs.Crashes.{behind, weaker}

module _ {D : Type 0} (contents : D → Option (List ℕ)) (images : D → List ℕ → Type 0) (moment : D → ℕ) (images_since : D → ℕ → List ℕ → Type 0) (faults : D → ℕ) where
  -- no call at all
  pub no_call : (disk : D) → ((image : List ℕ) → images_since disk (moment disk) image → images disk image) → IsOnlyRead contents images moment images_since faults disk disk
  no_call disk here = record {
    contents_kept = refl;
    images_kept = λ image is. is;
    each_moment = started moment images_since disk (images disk) here;
    faults_kept = omega arith;
  }

  -- one call
  pub one_call : (old new : D) → ((image : List ℕ) → images_since old (moment old) image → images old image) → contents new ≡ contents old → ((image : List ℕ) → images new image → images old image)
      → Elapses (moment old) (moment new) (images_since old) (images_since new) (images new) → faults old ≤ faults new → IsOnlyRead contents images moment images_since faults old new
  one_call old new here same less time count = record {
    contents_kept = same;
    images_kept = less;
    each_moment = goes_on moment images_since old old new (images old) (images new) (started moment images_since old (images old) here) time less;
    faults_kept = count;
  }

  -- one run after another
  pub both : (old mid new : D) → IsOnlyRead contents images moment images_since faults old mid → IsOnlyRead contents images moment images_since faults mid new
      → IsOnlyRead contents images moment images_since faults old new
  both old mid new first second = record {
    contents_kept = second.contents_kept ∙ first.contents_kept;
    images_kept = λ image is. first.images_kept image (second.images_kept image is);
    each_moment = behind moment images_since old mid new (images old) first.each_moment (weaker moment images_since mid new (images mid) (images old) second.each_moment first.images_kept);
    faults_kept = omega (arith, first.faults_kept, second.faults_kept);
  }
