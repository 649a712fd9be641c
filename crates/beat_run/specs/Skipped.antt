-- Which paths a run skipped (Filebeat reference, filestream input, file identity; this project's profile): those of files that were to be
-- followed and that it skipped as it opened them, each for its reason; after these the paths of files that were gone as the scan asked them for
-- their keys and of those that are too small for theirs, and those by which a file was listed again that an earlier path led to.
use Rattle.std.specs.Prelude.{◌≡◌, List, ◌++◌, length, map, Option, Some}
use Rattle.kept_rows.specs.Account.{SlotAccount}
use Rattle.kept_rows.specs.Run.{Run}
use Rattle.outside.specs.Folders.{Event, FolderHistory}
use Rattle.prospect.specs.declared.listed.Listed.{Listed}
use Rattle.report.specs.declared.passing.Passing.{Passing}
use Rattle.report.specs.declared.passing.Why.{Why}
use Rattle.report.specs.declared.passing.Why.TheVariants.{Doubled, Gone, Small}
use Rattle.run_steps.specs.FollowedOrSkipped.{AreFollowedOrSkipped}
use Rattle.run_steps.specs.declared.beginning.Scanned.{Scanned}
use Rattle.beat_run.specs.Scanning.{TellsScanned}

abbrev pub skipped_for : Why → Listed → Passing
skipped_for why one = record { path = one.path; why = why }

abbrev pub all_skipped : List Passing → Scanned → List Passing
all_skipped opened scan =
    opened ++ map (skipped_for Gone) scan.gone.items ++ map (skipped_for Small) scan.small.items ++ map (skipped_for Doubled) scan.doubled.items

-- these paths were skipped by one scan, after which the folder did more, and as the files that it listed to be followed were opened: each of
-- those is followed by the account, or among these paths for its reason
pub record AreSkipped (run : Run) (account : List SlotAccount) (told : FolderHistory) (after : Option FolderHistory) (skipped : List Passing) : Type 0 where
  pub scan : Scanned
  pub scanned : FolderHistory
  pub tells : TellsScanned run.settings.inputs told scan (Some scanned)
  pub later : List Event
  pub after_is : after ≡ Some (record scanned { events = scanned.events ++ later })
  pub opened : List Passing
  pub followed_or_skipped : AreFollowedOrSkipped run account (length scanned.events) scan.listed.items opened
  pub are : skipped ≡ all_skipped opened scan
