-- What a run prints (this project's profile): if it is done or stopped, the report; else only the status line.
use Rattle.std.specs.Prelude.{◌≡◌, ◌⊎◌, ℕ, List, ◌++◌, take, IfSome, MatchResult, Option, Result, Some}
use Rattle.accounts.specs.Numbers.{AreNumbersOf, ArePlacedIn}
use Rattle.kept_rows.specs.Account.{SlotAccount}
use Rattle.kept_rows.specs.Run.{Run}
use Rattle.report.specs.Report.{IsReport, status_bytes}
use Rattle.report.specs.declared.passing.Passing.{Passing}
use Rattle.report.specs.declared.status.Status.{Status}
use Rattle.report.specs.declared.status.Status.TheVariants.{Done, OutFault, Stopped}
use Rattle.registry_store.specs.Choice.{GivesRows}
use Rattle.rounds.specs.Words.{DiskWords}
use Rattle.run_steps.specs.AccountedFor.{RunObjects}
use Rattle.wire_base.specs.declared.row.Row.{Row}
use Rattle.beat_run.specs.Ends.{IsReportEnd, IsRunEnd}
use Rattle.beat_run.specs.Skipped.{AreSkipped}
use Rattle.beat_run.specs.declared.ending.Ending.{Ending}

-- the text is the report of a run that ended so
pub record IsReportOf (status : Status) (text : List ℕ) : Type 0 where
  pub rows : List Row
  pub passed : List Passing
  pub shipped : ℕ
  pub dropped : ℕ
  pub report : IsReport rows passed shipped dropped status text

-- and its numbers are those of the account, whose events are placed as the run's wires acknowledge their payloads; its skipped paths are those
-- that the run skipped, each for its reason, if what was done with the folder before it is known
pub record IsReportOver {D : Type 0} (objects : RunObjects D) (run : Run) (account : List SlotAccount) (status : Status) (text : List ℕ) : Type 0 where
  pub rows : List Row
  pub passed : List Passing
  pub shipped : ℕ
  pub dropped : ℕ
  pub report : IsReport rows passed shipped dropped status text
  pub placed : ArePlacedIn account run.trace.wires
  pub numbers : AreNumbersOf account shipped dropped
  pub skipped : IfSome objects.before.folder (λ told. AreSkipped run account told objects.after.folder passed)

-- its rows are those that both areas give
pub record ReportsStored {D : Type 0} (disks : DiskWords D) (a b : D) (status : Status) (text : List ℕ) : Type 0 where
  pub is : IsReportOf status text
  pub stored : (first second : List ℕ) → disks.contents a ≡ Some first → disks.contents b ≡ Some second → GivesRows first second is.rows

-- the run that ended so has this report to print
abbrev pub IsToBePrinted : Result Ending Status → List ℕ → Type 0
IsToBePrinted result text = MatchResult result (λ ending. ending.report ≡ text) (λ _. ⊥)

-- this text is after what the sink held
pub record StandsBehind (written after : Option (List ℕ)) (text : List ℕ) : Type 0 where
  pub front : List ℕ
  pub held_before : written ≡ Some front
  pub held : after ≡ Some (front ++ text)

-- a text of this kind is after what the sink held
pub record Prints (Kind : List ℕ → Type 0) (written : List ℕ) (after : Option (List ℕ)) : Type 0 where
  pub text : List ℕ
  pub is : Kind text
  pub held : after ≡ Some (written ++ text)

-- a text that a run may print: a report, or the status line of a run that gives none
abbrev pub IsPrintable : List ℕ → Type 0
IsPrintable text =
    ((status : Status) × (IsReportEnd status × IsReportOf status text))
    ⊎ ((status : Status) × (IsRunEnd status × (text ≡ status_bytes status)))

-- a front of such a text is after what the sink held
pub record HoldsFront (written : List ℕ) (after : Option (List ℕ)) : Type 0 where
  pub text : List ℕ
  pub printable : IsPrintable text
  pub count : ℕ
  pub held : after ≡ Some (written ++ take count text)

-- the status line is after what the sink held, or a front of what was to be printed if the sink failed; a run that
-- is done or stopped prints a report
abbrev pub IsPrinted : List ℕ → Option (List ℕ) → Status → Type 0
IsPrinted written after Done = Prints (IsReportOf Done) written after
IsPrinted written after Stopped = Prints (IsReportOf Stopped) written after
IsPrinted written after OutFault = HoldsFront written after
IsPrinted written after status = after ≡ Some (written ++ status_bytes status)
