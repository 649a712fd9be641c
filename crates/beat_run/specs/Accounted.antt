-- A run that is accounted for, by the status that it ends with (this project's profile).
use Rattle.std.specs.Prelude.{◌≡◌, ◌⊎◌, ℕ, true, [], slice_get, IfSome, IsSome, List, Option, Some}
use Rattle.std.specs.List.{AllByRecursion}
use Rattle.accounts.specs.Numbers.{AreAllCounted}
use Rattle.beat_config.specs.InRange.{AreInRange}
use Rattle.event_tree.specs.declared.input_rule.InputRule.{InputRule}
use Rattle.event_tree.specs.declared.settings.Settings.{Settings}
use Rattle.kept_rows.specs.Followed.{IsKeyOf}
use Rattle.kept_rows.specs.Run.{Run}
use Rattle.kept_rows.specs.Scans.{ShowsKey}
use Rattle.outside.specs.Folders.{FolderHistory}
use Rattle.prospect.specs.Lacks.{lacks_of}
use Rattle.registry_store.specs.Choice.{GivesRows}
use Rattle.registry_store.specs.Settled.{AreAtRest, AreSettled}
use Rattle.registry_store.specs.Standing.{Standing, chosen_by}
use Rattle.report.specs.declared.status.Status.{Status}
use Rattle.report.specs.declared.status.Status.TheVariants.{Done, FolderFault, NoNative, Stopped, TooMany, Unreachable}
use Rattle.rounds.specs.Words.{DiskWords}
use Rattle.wire_base.specs.declared.limits.Full.TheVariants.{Files, Epochs}
use Rattle.wire_base.specs.declared.row.Row.{Row}
use Rattle.run_steps.specs.AccountedFor.{AccountedFor, AreRowsBy, Objects, RunObjects, WereAtRest}
use Rattle.run_steps.specs.Areas.{GiveTheRows, HaveHeldFronts}
use Rattle.run_steps.specs.Met.{AreLeft, IsTelling}
use Rattle.run_steps.specs.Questions.{WasAskedFor}
use Rattle.run_steps.specs.Together.{Areas}
use Rattle.run_steps.specs.declared.met.Met.{Met}
use Rattle.beat_run.specs.Ends.{IsBehindSettings, IsReportEnd, ListsTooMany}
use Rattle.beat_run.specs.EpochsLeft.{FindsNoEpoch}
use Rattle.beat_run.specs.Named.{IsNamed}
use Rattle.beat_run.specs.Printed.{IsReportOver}
use Rattle.beat_run.specs.WithinLimits.{AllHaveNumbers, StaysWithinLimits}
use Rattle.run_steps.specs.declared.met.Met.TheVariants as met

-- what a run with this status may have hit; if it was refused, was out of memory, or a disk or the sink failed, anything
abbrev pub IsMetFor : Status → Met → Type 0
IsMetFor Done what = what ≡ met.Done
IsMetFor Stopped what = what ≡ met.Stopped
IsMetFor FolderFault what = what ≡ met.FolderFault
IsMetFor (Unreachable worker failures) what = what ≡ met.Unreachable worker
IsMetFor (TooMany full path) what = AreLeft what
IsMetFor (NoNative path) what = AreLeft what
IsMetFor _ what = Unit {0}

-- beside the rows that its areas gave as it began
pub record HasNoRoom {D : Type 0} (disks : DiskWords D) (settings : Settings) (objects : RunObjects D) (told : FolderHistory) (path : List ℕ) : Type 0 where
  pub rows : List Row
  pub given : GiveTheRows disks objects.before.a objects.before.b rows
  pub lists : ListsTooMany settings.inputs told rows Files path objects.after.folder

-- and beside these rows there is no epoch for the file
pub record HasNoEpoch {D : Type 0} (disks : DiskWords D) (settings : Settings) (objects : RunObjects D) (told : FolderHistory) (path : List ℕ) : Type 0 where
  pub rows : List Row
  pub given : GiveTheRows disks objects.before.a objects.before.b rows
  pub finds : FindsNoEpoch settings.inputs told rows path objects.after.folder

-- a run that ended since there were too many files, or epochs ran out, names the path of a file for which there was no room, or no epoch
abbrev pub IsFullFor : {D : Type 0} → DiskWords D → Settings → RunObjects D → Status → Type 0
IsFullFor disks settings objects (TooMany Files path) = IfSome objects.before.folder (λ told. HasNoRoom disks settings objects told path)
IsFullFor disks settings objects (TooMany Epochs path) = IfSome objects.before.folder (λ told. HasNoEpoch disks settings objects told path)
IsFullFor disks settings objects _ = Unit {0}

-- a row of a removed file: of an input that cleans such rows, while no scan showed its key
pub record IsOfRemovedFile (run : Run) (row : Row) : Type 0 where
  pub input : ℕ
  pub rule : InputRule
  pub rule_is : slice_get run.settings.inputs input ≡ Some rule
  pub cleans : rule.clean_removed ≡ true
  pub key_of_input : IsKeyOf rule.id row.key
  pub hidden : AllByRecursion (λ scan. ¬ (ShowsKey run scan row.key)) run.scans

-- a run that is done or stopped leaves no row of a removed file
abbrev pub LeavesNoRemoved : {D : Type 0} → DiskWords D → RunObjects D → Met → Run → Type 0
LeavesNoRemoved disks objects what run =
    WereAtRest disks objects → IsTelling what → AreRowsBy disks objects.after (λ rows. AllByRecursion (λ row. ¬ (IsOfRemovedFile run row)) rows)

-- the clock was asked for each moment of the account; the numbers of the report that it gives are those of the account, and its skipped paths
-- those that the run skipped, each for its reason; if it is done, the numbers are of all events; and if it gives a report, it stayed within
-- the limits of files, epochs and native numbers
pub record IsAccounted {D : Type 0} (disks : DiskWords D) (settings : Settings) (objects : RunObjects D) (status : Status) (tells : List ℕ → Type 0) : Type 0 where
  pub what : Met
  pub met_for : IsMetFor status what
  pub accounted : AccountedFor disks settings objects what
  pub asked : WasAskedFor objects.before.questions.clock objects.after.questions.clock accounted.run.trace.moments
  pub cleaned : LeavesNoRemoved disks objects what accounted.run
  pub reported : IsReportEnd status → (text : List ℕ) → tells text → IsReportOver objects accounted.run accounted.account status text
  pub counted : what ≡ met.Done → AreAllCounted accounted.account
  pub within : IsReportEnd status → IfSome objects.before.folder (StaysWithinLimits disks settings objects)
  pub numbered : IsReportEnd status → AllHaveNumbers accounted.run accounted.account
  pub full_for : IsFullFor disks settings objects status

-- what is known of folder and clock before it, and of each wire after it
pub record TellEnough {D : Type 0} (before after : Objects D) : Type 0 where
  pub folder : IsSome before.folder
  pub moments : IsSome before.moments
  pub wires : AllByRecursion (λ outcomes. IsSome outcomes) after.outcomes

-- the contents of both areas are known, and they give rows
pub record TellRows {D : Type 0} (disks : DiskWords D) (a b : D) : Type 0 where
  pub first : List ℕ
  pub second : List ℕ
  pub rows : List Row
  pub a_is : disks.contents a ≡ Some first
  pub b_is : disks.contents b ≡ Some second
  pub gives : GivesRows first second rows

-- and so do both areas before it
pub record AllTell {D : Type 0} (disks : DiskWords D) (objects : RunObjects D) : Type 0 where
  pub tell : TellEnough objects.before objects.after
  pub areas : TellRows disks objects.before.a objects.before.b

-- what a run is lent, and leaves as it was if its settings are not known
pub record Lent (F W D : Type 0) : Type 0 where
  pub folder : F
  pub wires : List W
  pub a : D
  pub b : D

-- as the run began and as it ended
pub record RunLent (F W D : Type 0) : Type 0 where
  pub before : Lent F W D
  pub after : Lent F W D

-- by the settings that the source spells, if the status says that they were known, and else the same if the run used what it was lent;
-- by none that the program does not support, and by such as are in their ranges
pub record IsAccountedByNamed {F W D : Type 0} (disks : DiskWords D) (source : Option (List ℕ)) (lent : RunLent F W D) (objects : RunObjects D) (status : Status) (tells : List ℕ → Type 0) : Type 0 where
  pub settings : Settings
  pub named : IsBehindSettings status → IsNamed source settings
  pub named_or_unused : IsNamed source settings ⊎ (lent.after ≡ lent.before)
  pub supported : lacks_of settings ≡ []
  pub in_range : AreInRange settings ⊎ (lent.after ≡ lent.before)
  pub is : IsAccounted disks settings objects status tells

abbrev pub IsAccountedWhereTold : {F W D : Type 0} → DiskWords D → Option (List ℕ) → RunLent F W D → RunObjects D → Status → (List ℕ → Type 0) → Type 0
IsAccountedWhereTold disks source lent objects status tells = AllTell disks objects → IsAccountedByNamed disks source lent objects status tells

-- ---- within a run

-- the store was opened from these areas, as the run began, and they gave its rows: if they were at rest they gave no others since, and
-- make the store's choice now
pub record IsOpenedFrom {D : Type 0} (disks : DiskWords D) (from : Areas D) (store : Standing) (a b : D) : Type 0 where
  pub gave : GiveTheRows disks from.a from.b store.rows
  pub held : AreAtRest disks.contents disks.images from.a from.b → HaveHeldFronts disks store.rows [] from.a from.b a b
  pub settled : AreAtRest disks.contents disks.images from.a from.b → AreSettled disks.contents disks.images a b (chosen_by store)
