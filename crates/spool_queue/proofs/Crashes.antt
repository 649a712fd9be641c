-- What a crash leaves at any moment of several calls, from what it leaves in each of them.
use Rattle.std.proofs.Common.{◌≡◌, inl, inr, ⊎_elim, ℕ, List, Option, Some, None, IfSome, sym, subst, arith}
use Rattle.outside.specs.DiskImages.{Elapses, Follows, LeavesOnly, Only}
use Rattle.outside.specs.Moments.{started, goes_on}

pub same_bytes : (a b : List ℕ) → Some a ≡ Some b → a ≡ b
same_bytes a b same = cc

module _ {D : Type 0} (moment : D → ℕ) (images_since : D → ℕ → List ℕ → Type 0) where
  -- one run behind another
  pub behind : (old mid new : D) (P : List ℕ → Type 0) → LeavesOnly moment images_since old mid P → LeavesOnly moment images_since mid new P → LeavesOnly moment images_since old new P
  behind old mid new P first second = record {
    later = omega (arith, first.later, second.later);
    each = λ image left. ⊎_elim (first.each image) (λ is. is) (second.before (moment old) image first.later left);
    before = λ start image le left. ⊎_elim (first.before start image le) inr (second.before start image (omega (arith, le, first.later)) left);
  }

  pub weaker : (old new : D) (P Q : List ℕ → Type 0) → LeavesOnly moment images_since old new P → ((image : List ℕ) → P image → Q image) → LeavesOnly moment images_since old new Q
  weaker old new P Q leaves holds = record {
    later = leaves.later;
    each = λ image left. holds image (leaves.each image left);
    before = λ start image le left. ⊎_elim inl (λ is. inr (holds image is)) (leaves.before start image le left);
  }

  -- a call that changes the bytes, where nothing was pending
  pub changed : (old new : D) (contents : Option (List ℕ)) (before_images images : List ℕ → Type 0) (Step : List ℕ → List ℕ → Type 0) → ((area : List ℕ) → Step area area)
      → ((image : List ℕ) → images_since old (moment old) image → before_images image) → Only contents before_images
      → Elapses (moment old) (moment new) (images_since old) (images_since new) images → Follows Step before_images images
      → IfSome contents (λ before. LeavesOnly moment images_since old new (Step before))
  changed old new None before_images images Step stays here only time follows = tt
  changed old new (Some before) before_images images Step stays here only time follows =
      goes_on moment images_since old old new (Step before) images
      (started moment images_since old (Step before) (λ image left. let S : List ℕ → Type 0 = λ l. Step l image in subst S (sym (same_bytes before image (only image (here image left)))) (stays image)))
      time
      (λ image is. let from = follows image is in let S : List ℕ → Type 0 = λ l. Step l image in subst S (sym (same_bytes before from.0 (only from.0 from.1))) from.2)

  -- and the sync behind it
  pub changed_and_synced : (old mid new : D) (contents : Option (List ℕ)) (before_images images later : List ℕ → Type 0) (Step : List ℕ → List ℕ → Type 0) → ((area : List ℕ) → Step area area)
      → ((image : List ℕ) → images_since old (moment old) image → before_images image) → Only contents before_images
      → Elapses (moment old) (moment mid) (images_since old) (images_since mid) images → Follows Step before_images images
      → Elapses (moment mid) (moment new) (images_since mid) (images_since new) later → ((image : List ℕ) → later image → images image)
      → IfSome contents (λ before. LeavesOnly moment images_since old new (Step before))
  changed_and_synced old mid new None before_images images later Step stays here only time follows synced less = tt
  changed_and_synced old mid new (Some before) before_images images later Step stays here only time follows synced less =
      goes_on moment images_since old mid new (Step before) later (changed old mid (Some before) before_images images Step stays here only time follows) synced
      (λ image is. let from = follows image (less image is) in let S : List ℕ → Type 0 = λ l. Step l image in subst S (sym (same_bytes before from.0 (only from.0 from.1))) from.2)
