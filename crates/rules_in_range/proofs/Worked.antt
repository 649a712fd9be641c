-- Worked forms of paths and conditions, computed by the definitions.
use Rattle.std.proofs.Common.{◌≡◌, ℕ, pos, List, [], ◌∷◌, None, Some, codes, inl, inr, refl, arith}
use Rattle.std.proofs.lemmas.Bool.{false≢true}
use Rattle.std.proofs.lemmas.List.Elements.{All-nil, All-cons}
use Rattle.event_tree.specs.declared.condition_rule.Bounds.{Bounds}
use Rattle.event_tree.specs.declared.condition_rule.ConditionRule.{HasFields, Range}
use Rattle.event_tree.specs.declared.condition_rule.ConditionRule.TheOpen.{ConditionRule-F}
use Rattle.event_tree.specs.declared.condition_rule.ConditionRule.TheVariants as variant
use Rattle.rules_in_range.specs.Conditions.{IsFieldPath, AreBoundsAt, AreSome, IsBodyInRange, IsConditionInRange}
use Rattle.rules_in_range.proofs.Levels.{one_level, made}

-- a path of two parts, and one with an empty part
two_parts : IsFieldPath (codes "log.offset")
two_parts = refl

empty_part : IsFieldPath (codes "log..offset") → ⊥
empty_part path = cc

one_path : IsConditionInRange 1 (HasFields (codes "a" ∷ []))
one_path =
    made 0 (HasFields (codes "a" ∷ [])) (ConditionRule-F.HasFields (codes "a" ∷ [])) (variant.outs-HasFields (codes "a" ∷ []))
    (omega arith, All-cons IsFieldPath (codes "a") [] refl (All-nil IsFieldPath))

-- without a path nothing is asked
no_path : IsConditionInRange 1 (HasFields []) → ⊥
no_path h =
    let some : AreSome IsFieldPath [] = one_level 1 (HasFields []) (ConditionRule-F.HasFields []) h (variant.outs-HasFields []) in
    omega (arith, some.0)

-- a range without a bound
abbrev no_bounds : Bounds
no_bounds = record { path = codes "a"; lt = None; lte = None; gt = None; gte = None }

no_bound : AreBoundsAt no_bounds → ⊥
no_bound (path, given) = elim given [
  | inl lt ↦ false≢true lt
  | inr more ↦ elim more [
    | inl lte ↦ false≢true lte
    | inr rest ↦ elim rest [
      | inl gt ↦ false≢true gt
      | inr gte ↦ false≢true gte
    ]
  ]
]
