-- One round of a lane (this project's profile): what was held is handed on, and then each harvester is turned once before any
-- is turned a second time. What is refused ends the round.
use Rattle.std.specs.Prelude.{◌≡◌, ◌≢◌, ◌⊎◌, ℕ, ◌-◌, ◌<◌, ◌≤◌, min, Bool, true, false, List, [], ◌∷◌, ◌++◌, Option, length}
use Rattle.std.specs.List.{AllByRecursion}
use Rattle.mem_queue.specs.Entries.{parcels}
use Rattle.mem_queue.specs.declared.entry.Entry.{Entry}
use Rattle.outside.specs.Tails.{TailHistory}
use Rattle.harvester.specs.declared.harvester.Harvester.{Harvester}
use Rattle.wire_base.specs.declared.note.Note.{Note}
use Rattle.wire_base.specs.declared.parcel.Parcel.{Parcel}
use Rattle.lanes.specs.Giving.{notes_in, parcels_in}
use Rattle.lanes.specs.Handing.{WasRefused}
use Rattle.lanes.specs.Keeping.{LaneKeeps}
use Rattle.lanes.specs.Laning.{Laning}
use Rattle.lanes.specs.Step.{IsAt, Step, tallied, turns_of}
use Rattle.lanes.specs.Steps.{ChangedAt}
use Rattle.lanes.specs.Tallies.{begun_tally}
use Rattle.lanes.specs.declared.given.Given.{Given}
use Rattle.lanes.specs.declared.given.Given.TheVariants.{Nothing}
use Rattle.lanes.specs.declared.run.When.{When}

-- this harvester was turned once, or had changed and was not turned
abbrev pub IsTurnedOrChanged : {T : Type 0} → ℕ → List Step → List (Harvester T) → Type 0
IsTurnedOrChanged index steps harvesters = (turns_of index steps ≡ 1) ⊎ ((turns_of index steps ≡ 0) × ChangedAt index harvesters)

abbrev pub AreAllTurned : {T : Type 0} → List Step → List (Harvester T) → Type 0
AreAllTurned steps harvesters = (index : ℕ) → index < length harvesters → IsTurnedOrChanged index steps harvesters

-- the last of these turns gave this
pub record EndWith (steps : List Step) (given : Given) : Type 0 where
  pub before : List Step
  pub last : Step
  pub are : steps ≡ before ++ last ∷ []
  pub gave : last.given ≡ given

-- what was held is refused once more, and nothing is turned
pub record IsStuck {T : Type 0} (moved : Bool) (steps : List Step) (old new : Laning T) : Type 0 where
  pub held : old.held ≢ Nothing
  pub still : new.held ≡ old.held
  pub none_turned : steps ≡ []
  pub not_moved : moved ≡ false

-- what was held, if something was, is put or posted before all that was given since
pub record GoesThrough {T : Type 0} (moved : Bool) (entries : List Entry) (posted : List Note) (old : Laning T) : Type 0 where
  pub parcels_then : List Parcel
  pub notes_then : List Note
  pub put : parcels entries ≡ parcels_in old.held ++ parcels_then
  pub post : posted ≡ notes_in old.held ++ notes_then
  pub moved_is : (moved ≡ true) ⊎ ((moved ≡ false) × (old.held ≡ Nothing))
  pub some : moved ≡ true → old.held ≢ Nothing

pub record LaneRuns {T : Type 0} (numbers : T → Option (ℕ × ℕ)) (told : T → Option TailHistory) (faults : T → ℕ) (queue box : ℕ) (when : When) (old new : Laning T) : Type 0 where
  pub keeps : LaneKeeps numbers told faults old new
  pub at : AllByRecursion (IsAt when) keeps.steps
  -- whether what was held went through
  pub moved : Bool
  pub begins : IsStuck moved keeps.steps old new ⊎ GoesThrough moved keeps.entries keeps.posted old
  pub tally : new.tally ≡ tallied (begun_tally moved) keeps.steps
  -- the first turn of each, and the later ones
  pub first : List Step
  pub more : List Step
  pub are : keeps.steps ≡ first ++ more
  pub once : (index : ℕ) → turns_of index first ≤ 1
  pub few : length more ≤ 256 - min (length old.harvesters) 256
  pub reached : AreAllTurned first old.harvesters ⊎ ((more ≡ []) × (new.held ≢ Nothing))
  -- something is held only if it was refused, and then nothing more is turned
  pub refused : WasRefused queue box new.held new.put new.post
  pub last : (new.held ≡ Nothing) ⊎ ((keeps.steps ≡ []) ⊎ EndWith keeps.steps new.held)
