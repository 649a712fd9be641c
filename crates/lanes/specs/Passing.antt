-- Turns of some of a lane's harvesters in one round (this project's profile). Cited only by private calls.
use Rattle.std.specs.Prelude.{◌≡◌, ◌≢◌, ◌⊎◌, ℕ, ◌-◌, ◌<◌, ◌≤◌, min, List, [], ◌++◌, Option, OnErr, OnOk, Result, Ok, Err, length}
use Rattle.std.specs.List.{AllByRecursion}
use Rattle.outside.specs.Tails.{TailHistory}
use Rattle.lanes.specs.Handing.{WasRefused}
use Rattle.lanes.specs.Keeping.{LaneKeeps}
use Rattle.lanes.specs.Laning.{Laning}
use Rattle.lanes.specs.Running.{AreAllTurned, EndWith, IsTurnedOrChanged}
use Rattle.lanes.specs.Step.{IsAt, IsBetween, Step, tallied, turns_of}
use Rattle.lanes.specs.declared.given.Given.TheVariants.{Nothing}
use Rattle.lanes.specs.declared.run.When.{When}

-- turns of the harvesters from one place to another
pub record LaneTurns {T : Type 0} (numbers : T → Option (ℕ × ℕ)) (told : T → Option TailHistory) (faults : T → ℕ) (when : When) (from to : ℕ) (old new : Laning T) : Type 0 where
  pub keeps : LaneKeeps numbers told faults old new
  pub at : AllByRecursion (IsAt when) keeps.steps
  pub within : AllByRecursion (IsBetween from to) keeps.steps
  pub tally : new.tally ≡ tallied old.tally keeps.steps

-- something is held only if it was refused
pub record EndsSo {T A E : Type 0} (queue box : ℕ) (result : Result A E) (steps : List Step) (new : Laning T) : Type 0 where
  pub none_held : OnOk result (new.held ≡ Nothing)
  pub held : OnErr result (new.held ≢ Nothing)
  pub refused : WasRefused queue box new.held new.put new.post
  -- it is what the last turn gave
  pub last : OnErr result (EndWith steps new.held)

-- each of them is turned once, unless it has changed; fewer only if something was refused
pub record TurnsEach {T A E : Type 0} (numbers : T → Option (ℕ × ℕ)) (told : T → Option TailHistory) (faults : T → ℕ) (queue box : ℕ) (when : When) (result : Result A E) (from to : ℕ) (old new : Laning T) : Type 0 where
  pub turns : LaneTurns numbers told faults when from to old new
  pub most : (index : ℕ) → turns_of index turns.keeps.steps ≤ 1
  pub each : OnOk result ((index : ℕ) → from ≤ index → index < to → IsTurnedOrChanged index turns.keeps.steps old.harvesters)
  pub ends : EndsSo queue box result turns.keeps.steps new

-- what a pass counted, or if it was refused, what it might
abbrev pub value_or : {E : Type 0} → Result ℕ E → ℕ → ℕ
value_or (Ok count) most = count
value_or (Err error) most = most

-- at most this many turns
pub record TurnsOn {T A E : Type 0} (numbers : T → Option (ℕ × ℕ)) (told : T → Option TailHistory) (faults : T → ℕ) (queue box : ℕ) (when : When) (result : Result A E) (most : ℕ) (old new : Laning T) : Type 0 where
  pub turns : LaneTurns numbers told faults when 0 (length old.harvesters) old new
  pub few : length turns.keeps.steps ≤ most
  pub ends : EndsSo queue box result turns.keeps.steps new

-- all of them, each once before any twice
pub record TurnsAll {T A E : Type 0} (numbers : T → Option (ℕ × ℕ)) (told : T → Option TailHistory) (faults : T → ℕ) (queue box : ℕ) (when : When) (result : Result A E) (old new : Laning T) : Type 0 where
  pub turns : LaneTurns numbers told faults when 0 (length old.harvesters) old new
  pub first : List Step
  pub more : List Step
  pub are : turns.keeps.steps ≡ first ++ more
  pub once : (index : ℕ) → turns_of index first ≤ 1
  pub few : length more ≤ 256 - min (length old.harvesters) 256
  pub reached : AreAllTurned first old.harvesters ⊎ ((more ≡ []) × (new.held ≢ Nothing))
  pub ends : EndsSo queue box result turns.keeps.steps new
