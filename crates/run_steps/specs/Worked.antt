-- What a run has done once its rounds are made (this project's profile): if the beginning of files was ended, none is.
use Rattle.std.specs.Prelude.{◌≡◌, ◌≢◌, ◌⊎◌, ◌≤◌, ◌<◌, ℕ, true, false, List, [], length, Result, Ok, Err}
use Rattle.std.specs.Borrow.{MutBor}
use Rattle.keeper.specs.Keeping.{Keeping}
use Rattle.outside.specs.Counts.{Rose}
use Rattle.report.specs.declared.passing.Passing.{Passing}
use Rattle.rounds.specs.Crewed.{lanings}
use Rattle.rounds.specs.KeeperTurns.{begun_stored}
use Rattle.rounds.specs.Staying.{HaveSlot}
use Rattle.rounds.specs.Words.{DiskWords, TailWords}
use Rattle.rounds.specs.declared.crew.Crew.{Crew}
use Rattle.rounds.specs.declared.storing.Storing.{Storing}
use Rattle.run_steps.specs.BeginErrors.{met_of}
use Rattle.run_steps.specs.MetBy.{IsEndedBy, Since, phase_met, phase_reading}
use Rattle.run_steps.specs.RunState.{Leaving, Phase}
use Rattle.run_steps.specs.declared.begin_error.BeginError.{BeginError}
use Rattle.run_steps.specs.declared.beginning.BegunFiles.{BegunFiles}
use Rattle.run_steps.specs.declared.met.Met.{Met}
use Rattle.run_steps.specs.declared.met.Met.TheVariants.{DiskFault, Done, Epochs, FolderFault, NoMemory, NoNative, Stopped, Unreachable}

abbrev pub phase_begun : Result BegunFiles BeginError → Phase
phase_begun (Ok files) = phase_reading files.faulty
phase_begun (Err error) = Leaving

abbrev pub phase_worked : Result BegunFiles BeginError → Met → Phase
phase_worked (Ok files) met = phase_met met
phase_worked (Err error) met = Leaving

-- the paths that were skipped as files were begun
abbrev pub HasPassed : Result BegunFiles BeginError → List Passing → Type 0
HasPassed (Ok files) after = after ≡ files.passed.items
HasPassed (Err error) after = after ≡ []

-- each was begun, or skipped for its reason
abbrev pub AreAllBegun : Result BegunFiles BeginError → Type 0
AreAllBegun (Ok files) = files.faulty ≡ false
AreAllBegun (Err error) = ⊥

-- what ended the beginning of files ends the run; else a round, or the bell, did
abbrev pub IsFollowedBy : {T W L D : Type 0} → TailWords T → DiskWords D → ℕ → Since T W L D → Result BegunFiles BeginError → Met → Type 0
IsFollowedBy tails disks attempts since (Ok files) met = met ≢ Stopped → IsEndedBy tails disks attempts files.faulty since met
IsFollowedBy tails disks attempts since (Err error) met = met ≡ met_of error

-- what is known of the counts of the objects of a run, before it works and after it
pub record Tolls : Type 0 where
  pub a_faults : ℕ
  pub b_faults : ℕ
  pub folder_faults : ℕ
  pub rings : ℕ

-- no count of them falls
pub record NeverFall (before after : Tolls) : Type 0 where
  pub a_faults : before.a_faults ≤ after.a_faults
  pub b_faults : before.b_faults ≤ after.b_faults
  pub folder_faults : before.folder_faults ≤ after.folder_faults
  pub rings : before.rings ≤ after.rings

-- what was met as files were begun is met still: some file failed, or the beginning was ended
abbrev pub IsBegunWith : Result BegunFiles BeginError → Met → Type 0
IsBegunWith (Ok files) met = (files.faulty ≡ true) × (met ≡ FolderFault)
IsBegunWith (Err error) met = met ≡ met_of error

-- why the run with this crew hit this after its files' beginning
abbrev pub IsWorkedBy : {T W L : Type 0} → Crew T W L → Tolls → Tolls → Met → Type 0
IsWorkedBy crew before after Done = Unit {0}
IsWorkedBy crew before after Stopped = Rose before.rings after.rings
IsWorkedBy crew before after NoMemory = Unit {0}
IsWorkedBy crew before after DiskFault = Rose before.a_faults after.a_faults ⊎ Rose before.b_faults after.b_faults
IsWorkedBy crew before after FolderFault = Rose before.folder_faults after.folder_faults
IsWorkedBy crew before after (Unreachable worker) = worker < length crew.carriers.items
IsWorkedBy crew before after (Epochs slot) = HaveSlot slot (lanings crew.lanes.items)
IsWorkedBy crew before after (NoNative slot) = ⊥

-- why a run with so many workers over so many listed files met this
abbrev pub IsMetByRun : ℕ → ℕ → Tolls → Tolls → Met → Type 0
IsMetByRun workers files before after Done = Unit {0}
IsMetByRun workers files before after Stopped = Rose before.rings after.rings
IsMetByRun workers files before after NoMemory = Unit {0}
IsMetByRun workers files before after DiskFault = Rose before.a_faults after.a_faults ⊎ Rose before.b_faults after.b_faults
IsMetByRun workers files before after FolderFault = Rose before.folder_faults after.folder_faults
IsMetByRun workers files before after (Unreachable worker) = worker < workers
IsMetByRun workers files before after (Epochs slot) = slot.0 < files
IsMetByRun workers files before after (NoNative slot) = slot.0 < files

-- a lent keeper with its areas, as they are lent to the rounds
abbrev pub lent : {D : Type 0} → MutBor Keeping → Keeping → MutBor D → MutBor D → Storing D
lent loan keeper a b = record { keeper = record loan { now = keeper }; a = a; b = b; stored = begun_stored }
