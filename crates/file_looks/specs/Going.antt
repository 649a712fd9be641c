-- How segments go on as their tail looks on (this project's profile): the last one has more looks, and others may
-- follow.
use Rattle.std.specs.Prelude.{◌≡◌, List, [], ◌∷◌, ◌++◌}
use Rattle.outside.specs.declared.history.Look.{Look}
use Rattle.file_looks.specs.Segment.{Segment}

pub record GoesOn (before now : Segment) : Type 0 where
  pub same_place : now.place ≡ before.place
  pub same_fall : now.fall ≡ before.fall
  pub more : List Look
  pub looks_on : now.looks ≡ before.looks ++ more

abbrev pub GoOn : List Segment → List Segment → Type 0
GoOn [] now = Unit {0}
GoOn (segment ∷ before) [] = ⊥
GoOn (segment ∷ []) (grown ∷ now) = GoesOn segment grown
GoOn (segment ∷ other ∷ before) (same ∷ now) = (same ≡ segment) × GoOn (other ∷ before) now
