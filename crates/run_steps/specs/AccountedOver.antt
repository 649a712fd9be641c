-- A run over listed files that is accounted for (this project's profile). It began with the rows of its store; its one scan was whole, and showed
-- the keys of the listed files, and no other. If it gives a report, no row of a removed file is left. Its events are placed as its wires
-- acknowledge their payloads. If the last steps were made, the numbers of shipped and of dropped events are those of the account;
-- if it is done, these are all of its events. If it gives a report, each listed file is followed, or skipped for its reason after the
-- scan; `scanned` is how many things the folder had reported by the end of that. The clock's moments begin with that of the scan.
use Rattle.std.specs.Prelude.{◌≡◌, ℕ, List, [], ◌∷◌, Contains, Some}
use Rattle.std.specs.List.{AllByRecursion}
use Rattle.accounts.specs.Numbers.{AreAllCounted, AreNumbersOf, ArePlacedIn}
use Rattle.event_tree.specs.declared.settings.Settings.{Settings}
use Rattle.file_rows.specs.Removed.{IsRemoved}
use Rattle.kept_rows.specs.Run.{Scan}
use Rattle.kept_rows.specs.Scans.{IsWhole, ShowsKey}
use Rattle.prospect.specs.Doubled.{HaveKey}
use Rattle.prospect.specs.declared.listed.Listed.{Listed}
use Rattle.report.specs.declared.passing.Passing.{Passing}
use Rattle.rounds.specs.Words.{DiskWords}
use Rattle.wire_base.specs.declared.row.Row.{Row}
use Rattle.run_steps.specs.AccountedFor.{AccountedFor, AreRowsBy, BeginWith, RunObjects, WereAtRest}
use Rattle.run_steps.specs.FollowedOrSkipped.{AreFollowedOrSkipped}
use Rattle.run_steps.specs.Met.{AreLeft, IsTelling}
use Rattle.run_steps.specs.declared.met.Met.{Met}
use Rattle.run_steps.specs.declared.met.Met.TheVariants.{Done}

pub record AccountedOver {D : Type 0} (disks : DiskWords D) (settings : Settings) (opening : List Row) (listed : List Listed) (moment scanned : ℕ) (objects : RunObjects D) (met : Met) (passed : List Passing) (shipped dropped : ℕ) : Type 0 where
  pub accounted : AccountedFor disks settings objects met
  pub opening_is : accounted.run.opening ≡ opening
  pub scan : Scan
  pub only : accounted.run.scans ≡ scan ∷ []
  pub whole : IsWhole accounted.run scan
  pub only_listed : (key : List ℕ) → ShowsKey accounted.run scan key → HaveKey listed (Some key)
  pub lists : (one : Listed) (key : List ℕ) → Contains listed one → one.key ≡ Some key → ShowsKey accounted.run scan key
  pub cleaned : WereAtRest disks objects → IsTelling met → AreRowsBy disks objects.after (λ rows. AllByRecursion (λ row. ¬ (IsRemoved settings.inputs listed row.key)) rows)
  pub placed : ArePlacedIn accounted.account accounted.run.trace.wires
  pub numbers : AreLeft met → AreNumbersOf accounted.account shipped dropped
  pub counted : met ≡ Done → AreAllCounted accounted.account
  pub begins : BeginWith moment accounted.run.trace.moments
  pub followed_or_skipped : IsTelling met → AreFollowedOrSkipped accounted.run accounted.account scanned listed passed
