-- The harvester that a lane lends (this project's profile): what is left in it is the lane's harvester then, at its place, and
-- nothing else changes.
use Rattle.std.specs.Prelude.{◌≡◌, ℕ, List, Option, Some, IfSome, slice_get, slice_set}
use Rattle.std.specs.Borrow.{Fml, LendsSo, MutBor, RattleType}
use Rattle.harvester.specs.declared.harvester.Harvester.{Harvester}
use Rattle.harvester.specs.contracts.harvester.Harvester.{the_row as harvester_row}
use Rattle.wire_base.specs.declared.numbers.Slot.{Slot}
use Rattle.lanes.specs.Laning.{IsOfSlot, Laning, laning}
use Rattle.lanes.specs.declared.lane.Lane.{Lane}
use Rattle.lanes.specs.contracts.lane.Lane.{the_row}

-- it is one of these, and of this slot
pub record StandsAmong {T : Type 0} (slot : Slot) (harvesters : List (Harvester T)) (one : Harvester T) : Type 0 where
  pub index : ℕ
  pub is : slice_get harvesters index ≡ Some one
  pub of_slot : IsOfSlot slot one

-- the one that was lent was left as another
pub record LeavesFound {T : Type 0} (slot : Slot) (old new : Laning T) (lent left : Harvester T) : Type 0 where
  pub stands : StandsAmong slot old.harvesters lent
  pub is : new ≡ record old { harvesters = slice_set old.harvesters stands.index left }

abbrev pub LendsFound : (T : RattleType) → Slot → MutBor (Lane T.Denot) → Option (MutBor (Harvester T.Denot)) → Fml
LendsFound T slot lane found =
    LendsSo (the_row T) (harvester_row T) lane found (λ ended left. IfSome found (λ lent. LeavesFound slot (laning lane.now) (laning ended) lent.now left))
    (λ ended. laning ended ≡ laning lane.now)
