-- What one scan reported (Filebeat reference, filestream input, file identity; this project's profile): which files it listed, what asking
-- these for their keys came to, and which of those with a key are followed.
use Rattle.std.specs.Prelude.{◌≡◌, All, List, Option, Some, flat_map, map}
use Rattle.event_tree.specs.declared.input_rule.InputRule.{InputRule}
use Rattle.outside.specs.Folders.{FolderHistory}
use Rattle.prospect.specs.AskedFiles.{AskedFile, AsksFrom, AsksSome, gone_by, keyed_by, small_by}
use Rattle.prospect.specs.Doubled.{PartsDoubled}
use Rattle.prospect.specs.ListedFiles.{IsKeyed, ScansFiles}
use Rattle.prospect.specs.declared.listed.Listed.{Listed}
use Rattle.run_steps.specs.declared.beginning.Scanned.{Scanned}

pub record ScansParted (inputs : List InputRule) (told : FolderHistory) (files doubled : List Listed) (after : Option FolderHistory) : Type 0 where
  pub all : List Listed
  -- what the folder reported after the listings, and after the askings
  pub listed : FolderHistory
  pub scanned : FolderHistory
  pub scans : ScansFiles inputs told all (Some listed)
  pub keyed : All (IsKeyed inputs) all
  pub asked : List AskedFile
  pub asked_are : map (λ (one : AskedFile). one.listed) asked ≡ all
  pub asks : AsksFrom inputs asked listed scanned
  pub after_is : after ≡ Some scanned
  pub parts : PartsDoubled (flat_map keyed_by asked) files doubled

-- the scan reports these files; those that were gone as they were asked, and those that are too small, are reported by the same askings
pub record TellsScanned (inputs : List InputRule) (told : FolderHistory) (tells : Scanned) (after : Option FolderHistory) : Type 0 where
  pub parted : ScansParted inputs told tells.listed.items tells.doubled.items after
  pub gone : tells.gone.items ≡ flat_map gone_by parted.asked
  pub small : tells.small.items ≡ flat_map small_by parted.asked

-- all was listed, and some of the files, or all, were asked for their keys
pub record ScansAndAsks (inputs : List InputRule) (told : FolderHistory) (after : Option FolderHistory) : Type 0 where
  pub all : List Listed
  pub listed : FolderHistory
  pub scans : ScansFiles inputs told all (Some listed)
  pub asks : AsksSome inputs listed all after
