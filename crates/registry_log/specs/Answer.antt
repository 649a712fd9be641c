-- What the answer of a reading says.
use Rattle.std.specs.Prelude.{◌≡◌, ◌<◌, ◌≤◌, length}
use Rattle.wire_base.specs.declared.numbers.TheConstants.{MAX_PLACE}
use Rattle.registry_log.specs.declared.area.Area.{Area}
use Rattle.registry_log.specs.declared.area.Area.TheVariants as answers
use Rattle.registry_log.specs.State.{State, Blank, Closed, Opened, Broken}

abbrev pub state_of : Area → State
state_of answers.Blank = Blank
state_of answers.Closed = Closed
state_of (answers.Opened generation rows start end) = Opened generation rows start end
state_of (answers.Broken at) = Broken at

-- the places of the gates and the number of rows are those of an area
abbrev pub IsWithin : Area → Type 0
IsWithin answers.Blank = Unit {0}
IsWithin answers.Closed = Unit {0}
IsWithin (answers.Opened generation rows start end) = (start ≡ 29) × (end < MAX_PLACE) × (length rows ≤ 65_536)
IsWithin (answers.Broken at) = Unit {0}
