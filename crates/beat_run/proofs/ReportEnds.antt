-- What is so of a run by what it met, whether it tells a report or its status alone.
use Rattle.std.proofs.Common.{◌≡◌, ◌⊎◌, inr, ℕ, ◌≤◌, List, length, Option, IfErr, IfOk, IfSome, IsSome, Result, Ok, Err, subst}
use Rattle.accounts.specs.Numbers.{AreNumbersOf, ArePlacedIn}
use Rattle.event_tree.specs.declared.settings.Settings.{Settings as SettingsOf}
use Rattle.kept_rows.specs.Account.{SlotAccount}
use Rattle.kept_rows.specs.Run.{Run}
use Rattle.outside.specs.Folders.{FolderHistory}
use Rattle.prospect.specs.declared.listed.Listed.{Listed}
use Rattle.registry_store.specs.Settled.{AreSettled}
use Rattle.registry_store.specs.Standing.{Standing, chosen_by}
use Rattle.report.specs.Report.{IsReport}
use Rattle.report.specs.declared.passing.Passing.{Passing}
use Rattle.report.specs.declared.status.Status.{Status}
use Rattle.report.specs.declared.status.Status.TheVariants.{NoMemory}
use Rattle.rounds.specs.Words.{DiskWords}
use Rattle.run_steps.specs.AccountedFor.{RunObjects}
use Rattle.run_steps.specs.Areas.{GiveTheRows}
use Rattle.run_steps.specs.Met.{AreLeft, IsMetOf, IsTelling}
use Rattle.run_steps.specs.Unnumbered.{IsMetUnnumbered}
use Rattle.run_steps.specs.Worked.{IsMetByRun}
use Rattle.run_steps.specs.declared.met.Met.{Met}
use Rattle.wire_base.specs.declared.row.Row.{Row}
use Rattle.beat_run.specs.Accounted.{IsFullFor, IsMetFor}
use Rattle.beat_run.specs.Cause.{CauseBy, Signs}
use Rattle.beat_run.specs.Ended.{StandsForMet, ended}
use Rattle.beat_run.specs.Ends.{IsBehindOpening, IsReportEnd, IsRunEnd, IsScannedEnd}
use Rattle.beat_run.specs.Printed.{IsReportOf, IsReportOver, IsToBePrinted, ReportsStored}
use Rattle.beat_run.specs.Scanning.{ScansParted}
use Rattle.beat_run.specs.Skipped.{AreSkipped}
use Rattle.beat_run.specs.declared.ending.Ending.{Ending}
use Rattle.beat_run.proofs.Accounts.{full_for_met, met_for_end}
use Rattle.beat_run.proofs.Causes.{FailedIn, caused_at_end, gives_its_rows, left_by, left_telling, scanned_end}
use Rattle.beat_run.proofs.EpochsOut.{HasNoneFor}
use Rattle.beat_run.proofs.PathsListed.{GoesFurther}

abbrev EndsBy : List Listed → ℕ → Met → Status → Type 0
EndsBy listed attempts what status = (status ≡ NoMemory) ⊎ StandsForMet listed attempts what status

-- either status stands for what was met
by : (listed : List Listed) (attempts : ℕ) (what : Met) (result : Result Ending Status) → IfOk result (λ ending. StandsForMet listed attempts what ending.status) → IfErr result (EndsBy listed attempts what) → EndsBy listed attempts what (ended result)
by listed attempts what (Ok ending) stands refused = inr stands
by listed attempts what (Err status) stands refused = refused

pub met_for_ending : (listed : List Listed) (attempts : ℕ) (what : Met) (result : Result Ending Status) → IsMetOf (length listed) what → IfOk result (λ ending. StandsForMet listed attempts what ending.status) →
    IfErr result (EndsBy listed attempts what) → IsMetFor (ended result) what
met_for_ending listed attempts what result of stands refused = met_for_end listed attempts what (ended result) of (by listed attempts what result stands refused)

pub full_for_ending : {D : Type 0} (disks : DiskWords D) (settings : SettingsOf) (objects : RunObjects D) (rows : List Row) (gave : GiveTheRows disks objects.before.a objects.before.b rows) (listed : List Listed) (attempts : ℕ) (what : Met) (result : Result Ending Status) →
    IsMetOf (length listed) what → HasNoneFor settings rows listed objects.before.folder objects.after.folder what →
    IfOk result (λ ending. StandsForMet listed attempts what ending.status) → IfErr result (EndsBy listed attempts what) → IsFullFor disks settings objects (ended result)
full_for_ending disks settings objects rows gave listed attempts what result of none stands refused =
    full_for_met disks settings objects rows gave listed attempts what (ended result) of none (by listed attempts what result stands refused)

pub left_by_ending : (listed : List Listed) (attempts : ℕ) (what : Met) (result : Result Ending Status) → IfOk result (λ ending. StandsForMet listed attempts what ending.status) →
    IfErr result (EndsBy listed attempts what) → IsBehindOpening (ended result) → AreLeft what
left_by_ending listed attempts what result stands refused followed = left_by listed attempts what (ended result) (by listed attempts what result stands refused) followed

pub scanned_ending : (listed : List Listed) (attempts : ℕ) (what : Met) (result : Result Ending Status) → IsMetOf (length listed) what → IfErr result (EndsBy listed attempts what) → IfErr result IsRunEnd → IfErr result IsScannedEnd
scanned_ending listed attempts what (Ok ending) of refused ends = tt
scanned_ending listed attempts what (Err status) of refused ends = scanned_end listed attempts what status of refused ends

pub caused_ending : (settings : SettingsOf) (files doubled : List Listed) (before now : Signs) (scanned : Option FolderHistory) (faults : ℕ) (no_less : before.counts.folder_faults ≤ faults)
    (scans : IfSome before.folder (λ history. ScansParted settings.inputs history files doubled scanned)) (goes : IsSome before.folder → GoesFurther scanned now.folder) (what : Met) (result : Result Ending Status) →
    IsMetByRun settings.output.workers (length files) (record before.counts { folder_faults = faults }) now.counts what → IsMetUnnumbered settings files scanned now.folder what → FailedIn settings before now what →
    IfOk result (λ ending. StandsForMet files settings.output.attempts what ending.status) → IfErr result (EndsBy files settings.output.attempts what) → CauseBy settings before now (ended result)
caused_ending settings files doubled before now scanned faults no_less scans goes what result cause unnumbered failed stands refused =
    caused_at_end settings files doubled before now scanned faults no_less scans goes what (ended result) cause unnumbered failed (by files settings.output.attempts what result stands refused)

pub reports_stored : {D : Type 0} (disks : DiskWords D) (a b : D) (store : Standing) (passed : List Passing) (shipped dropped : ℕ) (what : Met) (result : Result Ending Status) → IfOk result (λ _. IsTelling what) →
    IfOk result (λ ending. IsReport store.rows passed shipped dropped ending.status ending.report) → (AreLeft what → AreSettled disks.contents disks.images a b (chosen_by store)) →
    IfOk result (λ ending. ReportsStored disks a b ending.status ending.report)
reports_stored disks a b store passed shipped dropped what (Ok ending) telling report settled = record {
  is = record { rows = store.rows; passed = passed; shipped = shipped; dropped = dropped; report = report };
  stored = gives_its_rows disks a b store (settled (left_telling what telling));
}
reports_stored disks a b store passed shipped dropped what (Err status) telling report settled = tt

pub report_of : (rows : List Row) (passed : List Passing) (shipped dropped : ℕ) (result : Result Ending Status) → IfOk result (λ ending. IsReport rows passed shipped dropped ending.status ending.report) →
    IfOk result (λ ending. IsReportOf ending.status ending.report)
report_of rows passed shipped dropped (Ok ending) report = record { rows = rows; passed = passed; shipped = shipped; dropped = dropped; report = report }
report_of rows passed shipped dropped (Err status) report = tt

-- its numbers are those of the account, and its skipped paths those that the run skipped
pub report_over : {D : Type 0} (objects : RunObjects D) (rows : List Row) (passed : List Passing) (shipped dropped : ℕ) (what : Met) (result : Result Ending Status) → IfOk result (λ _. IsTelling what) →
    IfOk result (λ ending. IsReport rows passed shipped dropped ending.status ending.report) → (run : Run) (account : List SlotAccount) → ArePlacedIn account run.trace.wires →
    (IsTelling what → AreNumbersOf account shipped dropped) → (IsTelling what → IfSome objects.before.folder (λ told. AreSkipped run account told objects.after.folder passed)) → IsReportEnd (ended result) → (text : List ℕ) →
    IsToBePrinted result text → IsReportOver objects run account (ended result) text
report_over objects rows passed shipped dropped what (Ok ending) telling report run account placed numbers skipped end text same = record {
  rows = rows;
  passed = passed;
  shipped = shipped;
  dropped = dropped;
  report = subst (IsReport rows passed shipped dropped ending.status) same report;
  placed = placed;
  numbers = numbers telling;
  skipped = skipped telling;
}
report_over objects rows passed shipped dropped what (Err status) telling report run account placed numbers skipped end text same = absurd same
