-- The turns of a lane's harvesters, one after another (this project's profile).
use Rattle.std.specs.Prelude.{◌≡◌, ℕ, List, [], ◌∷◌, Option, Some, slice_get, slice_set}
use Rattle.outside.specs.Counts.{added_counts}
use Rattle.outside.specs.Tails.{TailHistory}
use Rattle.harvester.specs.declared.harvester.Harvester.{Harvester}
use Rattle.harvester.specs.HasTold.{IsChanged, begin_of}
use Rattle.lanes.specs.Giving.{Gives, spans_of}
use Rattle.lanes.specs.Laning.{Laning}
use Rattle.lanes.specs.Step.{IsAt, Step}
use Rattle.lanes.specs.Tallies.{tally_with}
use Rattle.lanes.specs.Turned.{HasTurned}
use Rattle.lanes.specs.declared.given.Given.{Given}
use Rattle.lanes.specs.declared.run.When.{When}

-- this harvester had changed
pub record ChangedAt {T : Type 0} (index : ℕ) (harvesters : List (Harvester T)) : Type 0 where
  pub one : Harvester T
  pub is : slice_get harvesters index ≡ Some one
  pub changed : IsChanged one

module _ {T : Type 0} (numbers : T → Option (ℕ × ℕ)) (told : T → Option TailHistory) (faults : T → ℕ) where
  -- one of the harvesters was turned
  pub record IsMade (step : Step) (old new : List (Harvester T)) : Type 0 where
    pub before : Harvester T
    pub after : Harvester T
    pub was : slice_get old step.index ≡ Some before
    pub of_slot : step.slot ≡ (begin_of before).slot
    pub goes_on : ¬ (IsChanged before)
    pub turned : HasTurned numbers told faults step.now step.last before step.turn after
    pub gives : Gives numbers told after step.turn step.given
    pub is : new ≡ slice_set old step.index after

  -- these turns were made, the first one first
  abbrev pub Run : List Step → List (Harvester T) → List (Harvester T) → Type 0
  Run [] old new = new ≡ old
  Run (step ∷ steps) old new = (mid : List (Harvester T)) × IsMade step old mid × Run steps mid new

  -- this one of a lane's harvesters was turned, and gave this
  pub record TurnsAt (when : When) (index : ℕ) (old new : Laning T) (what : Given) : Type 0 where
    pub step : Step
    pub at : IsAt when step
    pub of_index : step.index ≡ index
    pub gave : step.given ≡ what
    pub takes : IsMade step old.harvesters new.harvesters
    pub is : new ≡ record old { harvesters = new.harvesters; spans = added_counts old.spans (spans_of what); tally = tally_with step.slot step.turn old.tally }
