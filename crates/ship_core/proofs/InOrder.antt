-- Orderly notes, one more at a time.
use Rattle.std.proofs.Common.{◌≡◌, ◌⊎◌, inl, inr, List, [], ◌∷◌, ◌++◌, refl, ap, ◌∙◌, subst, append_assoc}
use Rattle.wire_base.specs.declared.note.Note.{Note}
use Rattle.ship_core.specs.Orderly.{MayFollow, AreOrderly}

-- where a list of one more is parted before a note: within the list, or before the last
parted : (notes : List Note) (last : Note) (front : List Note) (note : Note) (rest : List Note) → notes ++ last ∷ [] ≡ front ++ note ∷ rest → ((shorter : List Note) × (notes ≡ front ++ note ∷ shorter)) ⊎ ((notes ≡ front) × (last ≡ note))
parted [] last [] note rest e = inr (refl, cc)
parted [] last (first ∷ []) note rest e = absurd cc
parted [] last (first ∷ second ∷ front) note rest e = absurd cc
parted (first ∷ notes) last [] note rest e = inl (notes, let same : first ≡ note = cc in ap (λ (n : Note). n ∷ notes) same)
parted (first ∷ notes) last (other ∷ front) note rest e =
    let same : first ≡ other = cc in
    let later : notes ++ last ∷ [] ≡ front ++ note ∷ rest = cc in
    by_case same (parted notes last front note rest later)
  where
    by_case : first ≡ other → ((shorter : List Note) × (notes ≡ front ++ note ∷ shorter)) ⊎ ((notes ≡ front) × (last ≡ note)) → ((shorter : List Note) × (first ∷ notes ≡ other ∷ (front ++ note ∷ shorter))) ⊎ ((first ∷ notes ≡ other ∷ front) × (last ≡ note))
    by_case same (inl within) = inl (within.0, λ k. same k ∷ within.1 k)
    by_case same (inr at) = inr ((λ k. same k ∷ at.0 k), at.1)

pub none_orderly : AreOrderly []
none_orderly = record { each = λ front note rest e. absurd (nothing front note rest e) }
  where
    nothing : (front : List Note) (note : Note) (rest : List Note) → [] ≡ front ++ note ∷ rest → ⊥
    nothing [] note rest e = cc
    nothing (first ∷ front) note rest e = cc

pub one_more_orderly : (notes : List Note) (note : Note) → AreOrderly notes → MayFollow notes note → AreOrderly (notes ++ note ∷ [])
one_more_orderly notes last orderly may = record { each = λ front note rest e. by_case front note (parted notes last front note rest e) }
  where
    by_case : (front : List Note) (note : Note) → ((shorter : List Note) × (notes ≡ front ++ note ∷ shorter)) ⊎ ((notes ≡ front) × (last ≡ note)) → MayFollow front note
    by_case front note (inl within) = orderly.each front note within.0 within.1
    by_case front note (inr at) = subst (λ (n : Note). MayFollow front n) at.1 (subst (λ (l : List Note). MayFollow l last) at.0 may)

pub front_orderly : (front rest : List Note) → AreOrderly (front ++ rest) → AreOrderly front
front_orderly front rest orderly = record { each = λ before note after e. orderly.each before note (after ++ rest) (ap (λ (l : List Note). l ++ rest) e ∙ append_assoc before (note ∷ after) rest) }

pub follows : (front rest : List Note) (note : Note) → AreOrderly (front ++ note ∷ rest) → MayFollow front note
follows front rest note orderly = orderly.each front note rest refl
