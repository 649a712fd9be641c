-- A list of texts, joined, is the list of operations that they spell.
use Rattle.std.proofs.Common.{◌≡◌, ℕ, List, [], ◌∷◌, ◌++◌, map, refl, sym, ap, ◌∙◌}
use Rattle.std.specs.List.{join_by}
use Rattle.std.proofs.lemmas.List.Folds.{flat_map-map}
use Rattle.wire_base.specs.declared.row.Op.{Op}
use Rattle.registry_frame.specs.Body.{operation_bytes}

join_by-map : {X : Type 0} (text : X → List ℕ) (comma : List ℕ) (xs : List X) → join_by text comma xs ≡ join_by (λ t. t) comma (map text xs)
join_by-map text comma [] = refl
join_by-map text comma (x ∷ xs) = ap (λ (l : List ℕ). text x ++ l) (sym (flat_map-map (λ t. comma ++ t) text xs))

pub joined_texts : {X : Type 0} (text : X → List ℕ) (comma : List ℕ) (xs : List X) (ops : List Op) → map text xs ≡ map operation_bytes ops
    → join_by text comma xs ≡ join_by operation_bytes comma ops
joined_texts text comma xs ops same =
    join_by-map text comma xs ∙ ap (join_by (λ t. t) comma) same ∙ sym (join_by-map operation_bytes comma ops)
