-- How a run of disk calls goes on, for proofs of what a crash leaves at any of its moments.
use Rattle.std.specs.Prelude.{ℕ, List}
use Rattle.std.proofs.Common.{inl, inr, ⊎_elim, arith}
use Rattle.outside.specs.DiskImages.{Elapses, LeavesOnly}

module _ {D : Type 0} (moment : D → ℕ) (images_since : D → ℕ → List ℕ → Type 0) where
  -- before the first call
  pub started : (disk : D) (P : List ℕ → Type 0) → ((image : List ℕ) → images_since disk (moment disk) image → P image) → LeavesOnly moment images_since disk disk P
  started disk P here = record { later = omega arith; each = here; before = λ start image le left. inl left }

  -- one call more, each image after which has P
  pub goes_on : (old mid new : D) (P images : List ℕ → Type 0) → LeavesOnly moment images_since old mid P → Elapses (moment mid) (moment new) (images_since mid) (images_since new) images
      → ((image : List ℕ) → images image → P image) → LeavesOnly moment images_since old new P
  goes_on old mid new P images so_far time here = record {
    later = omega (arith, so_far.later, time.later);
    each = λ image left. ⊎_elim (so_far.each image) (here image) (time.nothing_else (moment old) image so_far.later left);
    before = λ start image le left. ⊎_elim (so_far.before start image le) (λ now. inr (here image now)) (time.nothing_else start image (omega (arith, le, so_far.later)) left);
  }
