-- What one scan reported (Filebeat reference, filestream input, file identity; this project's profile): which files it listed,
-- what asking these for their keys came to, and which of those with a key have it first.
use Rattle.std.specs.Prelude.{◌≡◌, List, Option, Some}
use Rattle.event_tree.specs.declared.input_rule.InputRule.{InputRule}
use Rattle.outside.specs.Folders.{FolderHistory}
use Rattle.prospect.specs.AskedFiles.{AsksFiles}
use Rattle.prospect.specs.Doubled.{PartsDoubled}
use Rattle.prospect.specs.ListedFiles.{ScansFiles}
use Rattle.prospect.specs.declared.asking.Keyed.{Keyed}
use Rattle.prospect.specs.declared.listed.Listed.{Listed}
use Rattle.file_progress.specs.declared.scan.Scan.{Scan}

pub record TellsScan (inputs : List InputRule) (told : FolderHistory) (scan : Scan) (after : Option FolderHistory) : Type 0 where
  pub all : List Listed
  -- what the folder reported after the listings
  pub listed : FolderHistory
  pub scans : ScansFiles inputs told all (Some listed)
  pub keyed : Keyed
  pub asks : AsksFiles inputs listed all keyed after
  pub parts : PartsDoubled keyed.files.items scan.files.items scan.doubled.items
  pub small : scan.small ≡ keyed.small
