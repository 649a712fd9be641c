-- What is seen where files were listed, by its parts.
use Rattle.std.proofs.Common.{◌≡◌, List, map, inl, Option, None, Some, IfSome, Result, Ok, Err, IfOk, Vec, sym, subst}
use Rattle.std.specs.declared.alloc.Global.{Global}
use Rattle.event_tree.specs.declared.input_rule.InputRule.{InputRule}
use Rattle.outside.specs.Folders.{FolderHistory}
use Rattle.prospect.specs.ListedFiles.{ScansFiles}
use Rattle.prospect.specs.Scan.{event_of, with_events}
use Rattle.prospect.specs.declared.listed.Listed.{Listed}
use Rattle.report.specs.declared.status.Status.{Status}
use Rattle.findings.specs.Each.{Each}
use Rattle.findings.specs.Globs.{asked_globs}
use Rattle.findings.specs.Seeing.{SeesFiles, SeesGlob, SeesListed}
use Rattle.findings.specs.System.{SystemTold}
use Rattle.findings.specs.declared.seen.FilesSeen.{FilesSeen}
use Rattle.findings.specs.declared.seen.GlobSeen.{GlobSeen}

module _ (system : Option SystemTold) (inputs : List InputRule) (before mid after : Option FolderHistory) (listed : Vec Listed Global) (globs : Vec GlobSeen Global) where
  found : (start : Option FolderHistory) (files : FilesSeen) → IfSome start (λ told. ScansFiles inputs told listed.items mid) → Each (SeesGlob system (Some listed)) (asked_globs 0 inputs) globs.items
      → IfSome mid (λ told. SeesListed system inputs told listed.items files after) → files.globs ≡ globs → IfSome start (λ told. SeesFiles system inputs told files after)
  found None files scans each sees same = tt
  found (Some told) files scans each sees same =
      let history : FolderHistory = with_events told (map event_of scans.listings) in
      let is : mid ≡ Some history = scans.listed_is.kept in
      let E : Vec GlobSeen Global → Type 0 = λ g. Each (SeesGlob system (Some listed)) (asked_globs 0 inputs) g.items in
      inl (record {
        listed = listed;
        history = history;
        lists = subst (λ (m : Option FolderHistory). ScansFiles inputs told listed.items m) is scans;
        globs = subst E (sym same) each;
        sees = subst (λ (m : Option FolderHistory). IfSome m (λ told. SeesListed system inputs told listed.items files after)) is sees;
      })

  pub files_found : (result : Result FilesSeen Status) → IfSome before (λ told. ScansFiles inputs told listed.items mid) → Each (SeesGlob system (Some listed)) (asked_globs 0 inputs) globs.items
      → IfOk result (λ files. IfSome mid (λ told. SeesListed system inputs told listed.items files after)) → IfOk result (λ files. files.globs ≡ globs)
      → IfOk result (λ files. IfSome before (λ told. SeesFiles system inputs told files after))
  files_found (Ok files) scans each sees same = found before files scans each sees same
  files_found (Err status) scans each sees same = tt
