-- What a crash leaves at any moment of several calls, from what it leaves in each of them.
use Rattle.std.proofs.Common.{◌≡◌, inl, inr, ⊎_elim, ℕ, List, ◌∷◌, length, Option, Some, None, IfSome, sym, ◌∙◌, ap, subst, arith}
use Rattle.outside.specs.DiskImages.{Elapses, Follows, LeavesOnly, Only, Torn}
use Rattle.outside.specs.DiskReads.{written}
use Rattle.outside.specs.Moments.{started, goes_on}
use Rattle.registry_log.specs.Starting.{Holds, IsBlank, IsClosed, IsPartWritten, IsShut}
use Rattle.registry_log.proofs.Gates.{lone_gate, opening, torn_behind, written_behind}

same_bytes : (a b : List ℕ) → Some a ≡ Some b → a ≡ b
same_bytes a b same = cc

module _ {D : Type 0} (moment : D → ℕ) (images_since : D → ℕ → List ℕ → Type 0) where
  -- one run after another
  pub behind : (old mid new : D) (P : List ℕ → Type 0) → LeavesOnly moment images_since old mid P → LeavesOnly moment images_since mid new P → LeavesOnly moment images_since old new P
  behind old mid new P first second = record {
    later = omega (arith, first.later, second.later);
    each = λ image left. ⊎_elim (first.each image) (λ is. is) (second.before (moment old) image first.later left);
    before = λ start image le left. ⊎_elim (first.before start image le) inr (second.before start image (omega (arith, le, first.later)) left);
  }

  pub weaker : (old new : D) (P Q : List ℕ → Type 0) → LeavesOnly moment images_since old new P → ((image : List ℕ) → P image → Q image) → LeavesOnly moment images_since old new Q
  weaker old new P Q leaves holds = record {
    later = leaves.later;
    each = λ image left. holds image (leaves.each image left);
    before = λ start image le left. ⊎_elim inl (λ is. inr (holds image is)) (leaves.before start image le left);
  }

  -- a call that changes the bytes, if nothing was pending
  pub changed : (old new : D) (contents : Option (List ℕ)) (before_images images : List ℕ → Type 0) (Step : List ℕ → List ℕ → Type 0) → ((area : List ℕ) → Step area area)
      → ((image : List ℕ) → images_since old (moment old) image → before_images image) → Only contents before_images
      → Elapses (moment old) (moment new) (images_since old) (images_since new) images → Follows Step before_images images
      → IfSome contents (λ before. LeavesOnly moment images_since old new (Step before))
  changed old new None before_images images Step stays here only time follows = tt
  changed old new (Some before) before_images images Step stays here only time follows =
      goes_on moment images_since old old new (Step before) images
      (started moment images_since old (Step before) (λ image left. let S : List ℕ → Type 0 = λ l. Step l image in subst S (sym (same_bytes before image (only image (here image left)))) (stays image)))
      time
      (λ image is. let from = follows image is in let S : List ℕ → Type 0 = λ l. Step l image in subst S (sym (same_bytes before from.0 (only from.0 from.1))) from.2)

  -- and the sync after it
  pub changed_and_synced : (old mid new : D) (contents : Option (List ℕ)) (before_images images later : List ℕ → Type 0) (Step : List ℕ → List ℕ → Type 0) → ((area : List ℕ) → Step area area)
      → ((image : List ℕ) → images_since old (moment old) image → before_images image) → Only contents before_images
      → Elapses (moment old) (moment mid) (images_since old) (images_since mid) images → Follows Step before_images images
      → Elapses (moment mid) (moment new) (images_since mid) (images_since new) later → ((image : List ℕ) → later image → images image)
      → IfSome contents (λ before. LeavesOnly moment images_since old new (Step before))
  changed_and_synced old mid new None before_images images later Step stays here only time follows synced less = tt
  changed_and_synced old mid new (Some before) before_images images later Step stays here only time follows synced less =
      goes_on moment images_since old mid new (Step before) later (changed old mid (Some before) before_images images Step stays here only time follows) synced
      (λ image is. let from = follows image (less image is) in let S : List ℕ → Type 0 = λ l. Step l image in subst S (sym (same_bytes before from.0 (only from.0 from.1))) from.2)

  -- ---- the steps of starting an area, of which `old` is the disk as it was and `bytes` are to be there in the end
  module _ (old : D) (contents : Option (List ℕ)) (bytes : List ℕ) where
    abbrev pub LeavesPartWritten : D → Type 0
    LeavesPartWritten new = IfSome contents (λ before. LeavesOnly moment images_since old new (IsPartWritten (123 ∷ bytes) before))

  pub once_shut : (old new : D) (contents : Option (List ℕ)) (bytes : List ℕ) → IfSome contents (λ before. LeavesOnly moment images_since old new (IsShut before)) → LeavesPartWritten old contents bytes new
  once_shut old new None bytes leaves = tt
  once_shut old new (Some before) bytes leaves = weaker old new _ _ leaves (λ image. inl)

  pub once_cut : (old mid new : D) (contents closed : Option (List ℕ)) (bytes : List ℕ) → LeavesPartWritten old contents bytes mid → IfSome contents (λ before. Holds IsClosed closed)
      → (Holds IsClosed closed → LeavesOnly moment images_since mid new IsClosed) → LeavesPartWritten old contents bytes new
  once_cut old mid new None closed bytes so_far closes leaves = tt
  once_cut old mid new (Some before) closed bytes so_far closes leaves =
      behind old mid new _ so_far (weaker mid new _ _ (leaves closes) (λ image is. inl (inr (inr is))))

  pub once_written : (old mid new : D) (contents alone : Option (List ℕ)) (bytes : List ℕ) → LeavesPartWritten old contents bytes mid → IfSome contents (λ before. Holds (λ area. IsClosed area × IsBlank area) alone)
      → IfSome alone (λ before. LeavesOnly moment images_since mid new (Torn 1 (length bytes) before)) → LeavesPartWritten old contents bytes new
  once_written old mid new None alone bytes so_far is leaves = tt
  once_written old mid new (Some before) None bytes so_far is leaves = absurd is
  once_written old mid new (Some before) (Some area) bytes so_far is leaves =
      let gate = lone_gate area is.0 is.1 in
      behind old mid new _ so_far (weaker mid new _ _ leaves
      (λ image torn. let T : List ℕ → Type 0 = λ l. Torn 1 (length bytes) l image in inl (inr (inr (torn_behind gate.0 (length bytes) image gate.1 (subst T gate.2 torn))))))

  pub once_opened : (old mid new : D) (contents alone full : Option (List ℕ)) (bytes : List ℕ) → LeavesPartWritten old contents bytes mid → IfSome contents (λ before. Holds (λ area. IsClosed area × IsBlank area) alone)
      → IfSome alone (λ before. full ≡ Some (written before 1 bytes))
      → IfSome full (λ before. LeavesOnly moment images_since mid new (Torn 0 1 before)) → LeavesPartWritten old contents bytes new
  once_opened old mid new None alone full bytes so_far is writes leaves = tt
  once_opened old mid new (Some before) None full bytes so_far is writes leaves = absurd is
  once_opened old mid new (Some before) (Some area) None bytes so_far is writes leaves = cc writes
  once_opened old mid new (Some before) (Some area) (Some all) bytes so_far is writes leaves =
      let gate = lone_gate area is.0 is.1 in
      let all_is : all ≡ gate.0 ∷ bytes = same_bytes _ _ writes ∙ ap (λ (l : List ℕ). written l 1 bytes) gate.2 ∙ written_behind gate.0 bytes in
      behind old mid new _ so_far (weaker mid new _ _ leaves
      (λ image torn. let T : List ℕ → Type 0 = λ l. Torn 0 1 l image in opening gate.0 bytes before image (subst T all_is torn)))

pub left_alone : (contents closed alone : Option (List ℕ)) → IfSome contents (λ before. Holds IsClosed closed) → (Holds IsClosed closed → Holds (λ area. IsClosed area × IsBlank area) alone)
    → IfSome contents (λ before. Holds (λ area. IsClosed area × IsBlank area) alone)
left_alone None closed alone closes cuts = tt
left_alone (Some before) closed alone closes cuts = cuts closes
