-- For private clauses: an area that is written beside the other one.
use Rattle.std.specs.Prelude.{ℕ, List, Option}
use Rattle.wire_base.specs.declared.limits.Which.{Which}
use Rattle.wire_base.specs.declared.row.Op.{Op}
use Rattle.wire_base.specs.declared.row.Row.{Row}
use Rattle.registry_store.specs.Committing.{GivesSome, MayHold}
use Rattle.registry_store.specs.Sides.{of_area}

-- what the written area may hold while the other holds one of `others`
pub record IsSafeBeside (area : Which) (before : Option (List ℕ)) (others : List ℕ → Type 0) (generation : ℕ) (rows : List Row) (ops : List Op) (image : List ℕ) : Type 0 where
  pub may_hold : MayHold before generation rows ops image
  pub gives : (other : List ℕ) → others other → GivesSome rows ops (of_area area image other) (of_area area other image)
