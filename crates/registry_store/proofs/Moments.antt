-- What a crash leaves at any moment of several calls, from what it leaves in each of them.
use Rattle.std.proofs.Common.{inl, inr, ⊎_elim, ℕ, List, arith}
use Rattle.outside.specs.DiskImages.{LeavesOnly}

module _ {D : Type 0} (moment : D → ℕ) (images_since : D → ℕ → List ℕ → Type 0) where
  -- one run after another
  pub behind : (old mid new : D) (P : List ℕ → Type 0) → LeavesOnly moment images_since old mid P → LeavesOnly moment images_since mid new P → LeavesOnly moment images_since old new P
  behind old mid new P first second = record {
    later = omega (arith, first.later, second.later);
    each = λ image left. ⊎_elim (first.each image) (λ is. is) (second.before (moment old) image first.later left);
    before = λ start image le left. ⊎_elim (first.before start image le) inr (second.before start image (omega (arith, le, first.later)) left);
  }

  pub weaker : (old new : D) (P Q : List ℕ → Type 0) → LeavesOnly moment images_since old new P → ((image : List ℕ) → P image → Q image) → LeavesOnly moment images_since old new Q
  weaker old new P Q leaves holds = record {
    later = leaves.later;
    each = λ image left. holds image (leaves.each image left);
    before = λ start image le left. ⊎_elim inl (λ is. inr (holds image is)) (leaves.before start image le left);
  }
