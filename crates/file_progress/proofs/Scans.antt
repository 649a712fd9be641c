-- What a scan told, by its listing, its asking and its parting.
use Rattle.std.proofs.Common.{◌≡◌, List, map, Option, None, Some, IfSome, Result, Ok, Err, IfOk, subst}
use Rattle.event_tree.specs.declared.input_rule.InputRule.{InputRule}
use Rattle.outside.specs.Folders.{FolderHistory}
use Rattle.prospect.specs.AskedFiles.{AsksFiles}
use Rattle.prospect.specs.Doubled.{PartsDoubled}
use Rattle.prospect.specs.ListedFiles.{ScansFiles}
use Rattle.prospect.specs.Scan.{event_of, with_events}
use Rattle.prospect.specs.declared.asking.Keyed.{Keyed}
use Rattle.prospect.specs.declared.listed.Listed.{Listed}
use Rattle.report.specs.declared.status.Status.{Status}
use Rattle.file_progress.specs.Scanning.{TellsScan}
use Rattle.file_progress.specs.declared.scan.Scan.{Scan}

module _ (inputs : List InputRule) (before mid after : Option FolderHistory) (listed : List Listed) (keyed : Keyed) where
  told_by_parts : (start : Option FolderHistory) (scan : Scan) → IfSome start (λ told. ScansFiles inputs told listed mid) → IfSome mid (λ told. AsksFiles inputs told listed keyed after)
      → PartsDoubled keyed.files.items scan.files.items scan.doubled.items → scan.small ≡ keyed.small → IfSome start (λ told. TellsScan inputs told scan after)
  told_by_parts None scan scans asks parts small = tt
  told_by_parts (Some told) scan scans asks parts small =
      let history : FolderHistory = with_events told (map event_of scans.listings) in
      let is : mid ≡ Some history = scans.listed_is.kept in
      record {
        all = listed;
        listed = history;
        scans = subst (λ (m : Option FolderHistory). ScansFiles inputs told listed m) is scans;
        keyed = keyed;
        asks = subst (λ (m : Option FolderHistory). IfSome m (λ told. AsksFiles inputs told listed keyed after)) is asks;
        parts = parts;
        small = small;
      }

  pub scan_told : (result : Result Scan Status) → IfSome before (λ told. ScansFiles inputs told listed mid) → IfSome mid (λ told. AsksFiles inputs told listed keyed after)
      → IfOk result (λ scan. PartsDoubled keyed.files.items scan.files.items scan.doubled.items) → IfOk result (λ scan. scan.small ≡ keyed.small)
      → IfOk result (λ scan. IfSome before (λ told. TellsScan inputs told scan after))
  scan_told (Ok scan) scans asks parts small = told_by_parts before scan scans asks parts small
  scan_told (Err status) scans asks parts small = tt
