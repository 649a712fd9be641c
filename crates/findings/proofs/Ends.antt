-- Why nothing is checked: one file is too many.
use Rattle.std.proofs.Common.{List, Option}
use Rattle.event_tree.specs.declared.input_rule.InputRule.{InputRule}
use Rattle.outside.specs.Folders.{FolderHistory}
use Rattle.prospect.specs.AskedFiles.{AsksFiles}
use Rattle.prospect.specs.Doubled.{PartsDoubled}
use Rattle.prospect.specs.declared.asking.Keyed.{Keyed}
use Rattle.prospect.specs.declared.listed.Listed.{Listed}
use Rattle.report.specs.declared.status.Status.{Status}
use Rattle.report.specs.declared.status.Status.TheVariants.{Done, Stopped, Usage, Settings, RegistryBad, DiskFault, FolderFault, Unreachable, OutFault, SourceFault, TooMany, NoNative, NoMemory, Unbuilt}
use Rattle.wire_base.specs.declared.limits.Full.TheVariants.{Epochs, Files, Slots}
use Rattle.findings.specs.Scanning.{IsTooManyEnd, ShowsMarksEnd}

module _ (inputs : List InputRule) (told : FolderHistory) (listed : List Listed) (after : Option FolderHistory) (keyed : Keyed) (asks : AsksFiles inputs told listed keyed after)
    (followed doubled : List Listed) (parts : PartsDoubled keyed.files.items followed doubled) where
  pub too_many_shown : (status : Status) → IsTooManyEnd followed status → ShowsMarksEnd inputs told listed status after
  too_many_shown (TooMany Files path) too_many = record { keyed = keyed; asks = asks; followed = followed; doubled = doubled; parts = parts; too_many = too_many }
  too_many_shown (TooMany Epochs path) ends = tt
  too_many_shown (TooMany Slots path) ends = tt
  too_many_shown Done ends = tt
  too_many_shown Stopped ends = tt
  too_many_shown Usage ends = tt
  too_many_shown (Settings _) ends = tt
  too_many_shown (RegistryBad _ _) ends = tt
  too_many_shown DiskFault ends = tt
  too_many_shown FolderFault ends = tt
  too_many_shown (Unreachable _ _) ends = tt
  too_many_shown OutFault ends = tt
  too_many_shown SourceFault ends = tt
  too_many_shown (NoNative _) ends = tt
  too_many_shown NoMemory ends = tt
  too_many_shown (Unbuilt _) ends = tt
