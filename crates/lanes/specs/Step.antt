-- One turn of one of a lane's harvesters (this project's profile).
use Rattle.std.specs.Prelude.{◌≡◌, ℕ, ◌+◌, ◌==◌, ◌<◌, ◌≤◌, Bool, true, false, List, [], ◌∷◌, ◌++◌}
use Rattle.harvester.specs.declared.turn.Turn.{Turn}
use Rattle.wire_base.specs.declared.note.Note.{Note}
use Rattle.wire_base.specs.declared.numbers.Moment.{Moment}
use Rattle.wire_base.specs.declared.numbers.Slot.{Slot}
use Rattle.wire_base.specs.declared.parcel.Parcel.{Parcel}
use Rattle.lanes.specs.Giving.{notes_in, parcels_in, spans_of}
use Rattle.lanes.specs.Tallies.{tally_with}
use Rattle.lanes.specs.declared.given.Given.{Given}
use Rattle.lanes.specs.declared.run.When.{When}
use Rattle.lanes.specs.declared.tally.Tally.{Tally}

-- which harvester was turned, of which slot, when, whether its end might be found, what it answered, and what that gave
pub record Step : Type 0 where
  pub index : ℕ
  pub slot : Slot
  pub now : Moment
  pub last : Bool
  pub turn : Turn
  pub given : Given

-- the parcels that these turns gave, and the notes, in order
abbrev pub issued_in : List Step → List Parcel
issued_in [] = []
issued_in (step ∷ steps) = parcels_in step.given ++ issued_in steps

abbrev pub noted_in : List Step → List Note
noted_in [] = []
noted_in (step ∷ steps) = notes_in step.given ++ noted_in steps

-- how many spans were reported
abbrev pub spans_in : List Step → ℕ
spans_in [] = 0
spans_in (step ∷ steps) = spans_of step.given + spans_in steps

-- what they come to
abbrev pub tallied : Tally → List Step → Tally
tallied tally [] = tally
tallied tally (step ∷ steps) = tallied (tally_with step.slot step.turn tally) steps

-- how often a harvester was turned
abbrev pub one_where : Bool → ℕ
one_where true = 1
one_where false = 0

abbrev pub turns_of : ℕ → List Step → ℕ
turns_of index [] = 0
turns_of index (step ∷ steps) = one_where (index == step.index) + turns_of index steps

-- in a round at this moment
pub record IsAt (when : When) (step : Step) : Type 0 where
  pub now : step.now ≡ when.now
  pub last : step.last ≡ when.last

-- of one of these harvesters
pub record IsBetween (from to : ℕ) (step : Step) : Type 0 where
  pub low : from ≤ step.index
  pub high : step.index < to
