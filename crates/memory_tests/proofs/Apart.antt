-- Spans that pass the test are one or apart.
use Rattle.std.proofs.Common.{◌≡◌, true, List, [], ◌∷◌, All, inl, inr, arith, eqb-true, ◌==◌}
use Rattle.std.specs.Prelude.{nat_le, ◌&&◌, ◌||◌}
use Rattle.std.specs.List.{list_all}
use Rattle.std.proofs.lemmas.Bool.{and_parts, or_cases, leb-true}
use Rattle.std.proofs.lemmas.List.Elements.{All-cons}
use Rattle.wire_base.specs.Extent.{Extent}
use Rattle.ship_core.specs.CoveredEnd.{AreEqualOrApart}
use Rattle.memory_tests.specs.Apart.{are_apart}

pub apart : (a b : Extent) → are_apart a b ≡ true → AreEqualOrApart a b
apart a b e = elim (or_cases ((a.start == b.start) && (a.end == b.end)) (nat_le a.end b.start || nat_le b.end a.start) e) [
  | inl same ↦ let parts = and_parts (a.start == b.start) (a.end == b.end) same in
      inl (λ k. record { start = eqb-true a.start b.start parts.0 k; end = eqb-true a.end b.end parts.1 k })
  | inr other ↦ elim (or_cases (nat_le a.end b.start) (nat_le b.end a.start) other) [
    | inl before ↦ inr (inl (leb-true a.end b.start before))
    | inr after ↦ inr (inr (leb-true b.end a.start after))
  ]
]

pub all_apart : (span : Extent) (spans : List Extent) → list_all (are_apart span) spans ≡ true → All (AreEqualOrApart span) spans
all_apart span [] e = λ k d inside. absurd (omega (arith, inside))
all_apart span (first ∷ spans) e =
    let parts = and_parts (are_apart span first) (list_all (are_apart span) spans) e in
    All-cons (AreEqualOrApart span) first spans (apart span first parts.0) (all_apart span spans parts.1)
