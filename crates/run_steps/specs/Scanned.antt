-- How a run scanned (this project's profile), in the words of the scan's own contracts: settings within their ranges, what its listings
-- reported, what asking the listed files for their keys came to, and which with a key are followed; and that it makes no other scan.
use Rattle.std.specs.Prelude.{◌≡◌, true, All, List, Some, flat_map, map}
use Rattle.beat_config.specs.InRange.{AreInRange}
use Rattle.prospect.specs.AskedFiles.{AskedFile, AsksFrom, keyed_by}
use Rattle.prospect.specs.Doubled.{PartsDoubled}
use Rattle.prospect.specs.ListedFiles.{IsKeyed, ScansFiles}
use Rattle.prospect.specs.declared.listed.Listed.{Listed}
use Rattle.run_steps.specs.Began.{Began}
use Rattle.run_steps.specs.RunOf.{FolderTold}

pub record HasScanned {D : Type 0} (start : Began D) (folder : FolderTold) : Type 0 where
  pub in_range : AreInRange start.settings
  pub once : start.once ≡ true
  pub shown : start.shown ≡ Some folder.scanned
  pub all : List Listed
  pub scans : ScansFiles start.settings.inputs folder.earlier all (Some folder.listed)
  pub keyed : All (IsKeyed start.settings.inputs) all
  pub asked_are : map (λ (one : AskedFile). one.listed) folder.asked ≡ all
  pub asks : AsksFrom start.settings.inputs folder.asked folder.listed folder.scanned
  pub parts : PartsDoubled (flat_map keyed_by folder.asked) start.listed start.doubled
