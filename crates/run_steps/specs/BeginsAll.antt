-- What beginning all listed files does (this project's profile): file by file, in the order of their slots, each is opened and
-- followed, or skipped if none is there, its key is another or it is too small for one, or it failed; and then it is noted when
-- each was changed.
use Rattle.std.specs.Prelude.{◌≡◌, ◌⊎◌, ◌||◌, ℕ, suc, ◌+◌, ◌-◌, ◌^◌, ◌<◌, ◌≤◌, Bool, true, false, List, [], ◌∷◌, ◌++◌, length, take, slice_get, Some, Ok, Err}
use Rattle.std.specs.List.{AllByRecursion}
use Rattle.event_tree.specs.declared.input_rule.InputRule.{InputRule}
use Rattle.event_tree.specs.declared.settings.Settings.{Settings}
use Rattle.harvester.specs.HasTold.{begin_of}
use Rattle.harvester.specs.declared.harvester.Harvester.{Harvester}
use Rattle.lanes.specs.Laning.{Laning}
use Rattle.multiline_core.specs.Rule.{IsGroupRule}
use Rattle.outside.specs.Counts.{Rose}
use Rattle.prospect.specs.declared.listed.Listed.{Listed}
use Rattle.report.specs.declared.passing.Passing.{Passing}
use Rattle.report.specs.declared.passing.Why.{Why}
use Rattle.rounds.specs.Crewed.{lanings}
use Rattle.rounds.specs.Words.{TailWords}
use Rattle.wire_base.specs.declared.numbers.Moment.{Moment}
use Rattle.wire_base.specs.declared.row.Row.{Row}
use Rattle.run_steps.specs.BeginErrors.{ended_behind}
use Rattle.run_steps.specs.BeginFor.{start_among}
use Rattle.run_steps.specs.Beginning.{Beginning, BeginsOne, ListedFile, listed_file}
use Rattle.run_steps.specs.Releasing.{harvesters_of}
use Rattle.run_steps.specs.Telling.{TellMoments, TellSomeMoments}
use Rattle.run_steps.specs.declared.begin_error.BeginError.{BeginError}
use Rattle.run_steps.specs.declared.begin_error.BeginError.TheVariants.{FolderFault, NoMemory, NoNative}
use Rattle.run_steps.specs.declared.begin.Admission.{Admission}
use Rattle.run_steps.specs.declared.begin.Admission.TheVariants.{Failed, Followed, Skipped}
use Rattle.run_steps.specs.declared.beginning.BegunFiles.{BegunFiles}

-- ---- what came of files: the paths that were skipped, and whether some file failed

pub record Came : Type 0 where
  pub passed : List Passing
  pub faulty : Bool

abbrev pub came_of : BegunFiles → Came
came_of begun = record { passed = begun.passed.items; faulty = begun.faulty }

abbrev pub none_came : Came
none_came = record { passed = []; faulty = false }

-- of some, and then of others
abbrev pub both_came : Came → Came → Came
both_came first later = record { passed = first.passed ++ later.passed; faulty = first.faulty || later.faulty }

-- of one
abbrev pub passed_by : Admission → Listed → List Passing
passed_by Followed listed = []
passed_by (Skipped why) listed = record { path = listed.path; why = why } ∷ []
passed_by Failed listed = []

abbrev pub has_failed : Admission → Bool
has_failed Followed = false
has_failed (Skipped why) = false
has_failed Failed = true

abbrev pub came_by : Admission → Listed → Came
came_by begun listed = record { passed = passed_by begun listed; faulty = has_failed begun }

-- ---- file by file

-- it starts by its row among these
abbrev pub file_at : List Row → ℕ → Listed → Moment → ListedFile
file_at rows slot listed now = listed_file (record { 0 = slot }) listed (start_among rows listed) now

module _ {T W L : Type 0} (tails : TailWords T) (settings : Settings) where
  -- a file was opened and followed, or skipped, or failed
  pub record BeginsOrPasses (file : ListedFile) (more : Came) (old new : Beginning T W L) : Type 0 where
    pub begun : Admission
    pub begins : BeginsOne tails settings file (Ok begun) old new
    pub more_is : more ≡ came_by begun file.listed

  -- the call ended in it, if some file had failed before or none
  pub record EndsBehind (file : ListedFile) (faulty : Bool) (error : BeginError) (old new : Beginning T W L) : Type 0 where
    pub what : BeginError
    pub begins : BeginsOne tails settings file (Err what) old new
    pub error_is : error ≡ ended_behind faulty what

  -- so it did, or as its path was to be noted as skipped
  abbrev pub EndsInOne : ListedFile → Bool → BeginError → Beginning T W L → Beginning T W L → Type 0
  EndsInOne file faulty error old new = EndsBehind file faulty error old new ⊎ ((error ≡ NoMemory) × (why : Why) × BeginsOne tails settings file (Ok (Skipped why)) old new)

module _ {T W L : Type 0} (tails : TailWords T) (settings : Settings) (rows : List Row) (now : Moment) where
  -- one file was opened or skipped or failed, and then the rest
  pub record BeginsFirst (slot : ℕ) (listed : Listed) (Rest : Came → Beginning T W L → Type 0) (came : Came) (old : Beginning T W L) : Type 0 where
    pub begun : Admission
    pub mid : Beginning T W L
    pub first : BeginsOne tails settings (file_at rows slot listed now) (Ok begun) old mid
    pub later : Came
    pub came_is : came ≡ both_came (came_by begun listed) later
    pub rest : Rest later mid

  -- these files, in the order of their slots from this one on
  abbrev pub BeginsFrom : ℕ → List Listed → Came → Beginning T W L → Beginning T W L → Type 0
  BeginsFrom slot [] came old new = (came ≡ none_came) × (new ≡ old)
  BeginsFrom slot (one ∷ listed) came old new = BeginsFirst slot one (λ later mid. BeginsFrom (suc slot) listed later mid new) came old

  module _ (listed : List Listed) where
    -- each of them, and then it was reported to the keeper when those were changed that are followed
    pub record BeginsAll (came : Came) (old new : Beginning T W L) : Type 0 where
      pub mid : Beginning T W L
      pub begins : BeginsFrom 0 listed came old mid
      pub tell : TellMoments rows 0 listed mid.keeper new.keeper
      pub others : new ≡ record mid { keeper = new.keeper }

    -- ---- where it ended early

    -- in a file, after the first so many
    pub record EndsInFile (error : BeginError) (old new : Beginning T W L) : Type 0 where
      pub count : ℕ
      pub came : Came
      pub mid : Beginning T W L
      pub begins : BeginsFrom 0 (take count listed) came old mid
      pub one : Listed
      pub is : slice_get listed count ≡ Some one
      pub ended : EndsBehind tails settings (file_at rows count one now) came.faulty error mid new

    -- out of memory after the first so many, as the last path was to be noted as skipped
    pub record EndsBehindFile (old new : Beginning T W L) : Type 0 where
      pub count : ℕ
      pub came : Came
      pub begins : BeginsFrom 0 (take count listed) came old new

    -- out of memory after all of them, as some moments were reported to the keeper
    pub record EndsInMoments (old new : Beginning T W L) : Type 0 where
      pub came : Came
      pub mid : Beginning T W L
      pub begins : BeginsFrom 0 listed came old mid
      pub tell : TellSomeMoments rows listed mid.keeper new.keeper
      pub others : new ≡ record mid { keeper = new.keeper }

    abbrev pub EndsInFiles : BeginError → Beginning T W L → Beginning T W L → Type 0
    EndsInFiles error old new = EndsInFile error old new ⊎ ((error ≡ NoMemory) × EndsBehindFile old new)

    abbrev pub BeginsSome : BeginError → Beginning T W L → Beginning T W L → Type 0
    BeginsSome error old new = EndsInFile error old new ⊎ ((error ≡ NoMemory) × (EndsBehindFile old new ⊎ EndsInMoments old new))

-- a listed file of an input whose rules are in their ranges
pub record IsOfRuledInput (settings : Settings) (listed : Listed) : Type 0 where
  pub rule : InputRule
  pub rule_is : slice_get settings.inputs listed.input ≡ Some rule
  pub in_range : IsGroupRule rule.multiline

-- its input is one of the settings
abbrev pub IsOfInputs : Settings → Listed → Type 0
IsOfInputs settings listed = listed.input < length settings.inputs

-- beginning these files ends early if out of memory, or if one had no native numbers, maybe after one that failed
abbrev pub EndsBeginning : {T W L : Type 0} → ℕ → BeginError → Beginning T W L → Beginning T W L → Type 0
EndsBeginning count NoMemory old new = Unit {0}
EndsBeginning count FolderFault old new = Rose old.folder.faults new.folder.faults
EndsBeginning count (NoNative slot) old new = slot.0 < count

-- each harvester is of one of so many slots
abbrev pub IsSlotBelow : {T : Type 0} → ℕ → Harvester T → Type 0
IsSlotBelow count harvester = (begin_of harvester).slot.0 < count

abbrev pub AreSlotsBelow : {T : Type 0} → ℕ → List (Laning T) → Type 0
AreSlotsBelow count lanes = AllByRecursion (λ lane. AllByRecursion (IsSlotBelow count) lane.harvesters) lanes

abbrev pub many_harvesters : {T W L : Type 0} → Beginning T W L → ℕ
many_harvesters state = length (harvesters_of (lanings state.crew.lanes.items))

-- what stays, whatever beginning so many files came to
pub record KeepsOthers {T W L : Type 0} (count : ℕ) (old new : Beginning T W L) : Type 0 where
  pub carriers : new.crew.carriers ≡ old.crew.carriers
  pub pace : new.crew.pace ≡ old.crew.pace
  pub as_many_lanes : length new.crew.lanes.items ≡ length old.crew.lanes.items
  -- of the keeper all but its notes
  pub keeper : new.keeper ≡ record old.keeper { tracked = new.keeper.tracked }
  pub faults_never_fall : old.folder.faults ≤ new.folder.faults
  pub slots : AreSlotsBelow count (lanings old.crew.lanes.items) → AreSlotsBelow count (lanings new.crew.lanes.items)
  -- one tail for each harvester more
  pub open_tails : old.folder.open_tails + count < 2 ^ 64 - 1 → new.folder.open_tails + many_harvesters old ≡ old.folder.open_tails + many_harvesters new
