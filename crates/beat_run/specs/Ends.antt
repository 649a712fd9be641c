-- Which statuses end which part of the run, and the count that has to have risen if one blames the outside (this
-- project's profile). A count is given as it was before and as it is now.
use Rattle.std.specs.Prelude.{◌≡◌, ◌⊎◌, ℕ, List, Option}
use Rattle.beat_config.specs.declared.settings_error.SettingsError.{SettingsError}
use Rattle.event_tree.specs.declared.input_rule.InputRule.{InputRule}
use Rattle.outside.specs.Folders.{FolderHistory}
use Rattle.prospect.specs.Doubled.{PartsDoubled}
use Rattle.prospect.specs.ListedFiles.{FindsNoNumbers}
use Rattle.prospect.specs.Members.{globs_of}
use Rattle.prospect.specs.Unfinished.{ListsSome}
use Rattle.prospect.specs.declared.listed.Listed.{Listed}
use Rattle.run_steps.specs.Starting.{IsFirstTooMany}
use Rattle.wire_base.specs.declared.limits.Full.{Full}
use Rattle.wire_base.specs.declared.limits.Full.TheVariants.{Epochs, Files}
use Rattle.wire_base.specs.declared.row.Row.{Row}
use Rattle.outside.specs.Counts.{Rose}
use Rattle.report.specs.declared.status.Lack.TheVariants.{Key, Follow}
use Rattle.report.specs.declared.status.Lack.{Lack}
use Rattle.report.specs.declared.status.Status.{Status}
use Rattle.report.specs.declared.status.Status.TheVariants.{Done, Stopped, Usage, Settings, RegistryBad, DiskFault, FolderFault, Unreachable, OutFault, SourceFault, TooMany, NoNative, NoMemory, Unbuilt}
use Rattle.beat_run.specs.Scanning.{ScansAndAsks, ScansParted}

-- reading the arguments
abbrev pub IsWordsEnd : Status → Type 0
IsWordsEnd Usage = Unit {0}
IsWordsEnd NoMemory = Unit {0}
IsWordsEnd (Unbuilt Follow) = Unit {0}
IsWordsEnd _ = ⊥

-- reading the settings
abbrev pub IsSettingsEnd : ℕ → ℕ → Status → Type 0
IsSettingsEnd before now SourceFault = Rose before now
IsSettingsEnd before now NoMemory = Unit {0}
IsSettingsEnd before now (Settings fault) = Unit {0}
IsSettingsEnd before now _ = ⊥

-- looking for what the settings ask for and is not built
abbrev pub IsLackEnd : Status → Type 0
IsLackEnd NoMemory = Unit {0}
IsLackEnd (Unbuilt (Key key)) = Unit {0}
IsLackEnd _ = ⊥

-- everything before the registry, by the source's count of faults
abbrev pub IsPreparingEnd : ℕ → ℕ → Status → Type 0
IsPreparingEnd before now Usage = Unit {0}
IsPreparingEnd before now SourceFault = Rose before now
IsPreparingEnd before now NoMemory = Unit {0}
IsPreparingEnd before now (Settings fault) = Unit {0}
IsPreparingEnd before now (Unbuilt (Key key)) = Unit {0}
IsPreparingEnd before now (Unbuilt Follow) = Unit {0}
IsPreparingEnd before now _ = ⊥

-- a scan, and where its files start
abbrev pub IsScanEnd : ℕ → ℕ → Status → Type 0
IsScanEnd before now FolderFault = Rose before now
IsScanEnd before now NoMemory = Unit {0}
IsScanEnd before now (TooMany Files path) = Unit {0}
IsScanEnd before now (TooMany Epochs path) = Unit {0}
IsScanEnd before now (NoNative path) = Unit {0}
IsScanEnd before now _ = ⊥

-- all was listed, and of the files that are followed the first that is too much for these rows has this path
pub record ListsTooMany (inputs : List InputRule) (told : FolderHistory) (rows : List Row) (what : Full) (path : List ℕ) (after : Option FolderHistory) : Type 0 where
  pub files : List Listed
  pub doubled : List Listed
  pub scans : ScansParted inputs told files doubled after
  pub first : IsFirstTooMany rows files what path

-- its listings that were made, or all of them and some of its askings
abbrev pub ScansSome : List InputRule → FolderHistory → Option FolderHistory → Type 0
ScansSome inputs told after = ListsSome (globs_of inputs) told after ⊎ ScansAndAsks inputs told after

-- what it shows then: what was listed and asked, what is too much for these rows, or a path without the numbers that its input wants
abbrev pub ShowsScanEnd : List InputRule → FolderHistory → List Row → Option FolderHistory → Status → Type 0
ShowsScanEnd inputs told rows after FolderFault = ScansSome inputs told after
ShowsScanEnd inputs told rows after NoMemory = ScansSome inputs told after
ShowsScanEnd inputs told rows after (TooMany Files path) = ListsTooMany inputs told rows Files path after
ShowsScanEnd inputs told rows after (TooMany Epochs path) = ListsTooMany inputs told rows Epochs path after
ShowsScanEnd inputs told rows after (NoNative path) = FindsNoNumbers inputs told path after
ShowsScanEnd inputs told rows after _ = ⊥

-- files that could not all be started beside these rows
abbrev pub IsStartEnd : List Row → List Listed → Status → Type 0
IsStartEnd rows listed NoMemory = Unit {0}
IsStartEnd rows listed (TooMany Files path) = IsFirstTooMany rows listed Files path
IsStartEnd rows listed (TooMany Epochs path) = IsFirstTooMany rows listed Epochs path
IsStartEnd rows listed _ = ⊥

-- listed files of which those that are followed could not all be started
pub record HasPartedEnd (rows : List Row) (listed : List Listed) (status : Status) : Type 0 where
  pub files : List Listed
  pub doubled : List Listed
  pub parts : PartsDoubled listed files doubled
  pub ends : IsStartEnd rows files status

-- or that could not be parted
abbrev pub IsPartedEnd : List Row → List Listed → Status → Type 0
IsPartedEnd rows listed status = (status ≡ NoMemory) ⊎ HasPartedEnd rows listed status

-- a run that gives a report
abbrev pub IsReportEnd : Status → Type 0
IsReportEnd Done = Unit {0}
IsReportEnd Stopped = Unit {0}
IsReportEnd _ = ⊥

-- a run that prints only its status line
abbrev pub IsRunEnd : Status → Type 0
IsRunEnd Done = ⊥
IsRunEnd Stopped = ⊥
IsRunEnd OutFault = ⊥
IsRunEnd _ = Unit {0}

-- rounds, and the later events, if no report is given
abbrev pub IsWorkedEnd : Status → Type 0
IsWorkedEnd NoMemory = Unit {0}
IsWorkedEnd DiskFault = Unit {0}
IsWorkedEnd FolderFault = Unit {0}
IsWorkedEnd (Unreachable worker failures) = Unit {0}
IsWorkedEnd (TooMany Epochs path) = Unit {0}
IsWorkedEnd (NoNative path) = Unit {0}
IsWorkedEnd _ = ⊥

-- the scan and all later events, if no report is given
abbrev pub IsScannedEnd : Status → Type 0
IsScannedEnd (TooMany Files path) = Unit {0}
IsScannedEnd status = IsWorkedEnd status

-- all that is done once the settings are known, if no report is given
abbrev pub IsSettledEnd : Status → Type 0
IsSettledEnd (RegistryBad area at) = Unit {0}
IsSettledEnd status = IsScannedEnd status

-- a refusal before the areas were looked at
abbrev pub IsUnprepared : Status → Type 0
IsUnprepared Usage = Unit {0}
IsUnprepared SourceFault = Unit {0}
IsUnprepared (Settings fault) = Unit {0}
IsUnprepared (Unbuilt (Key key)) = Unit {0}
IsUnprepared (Unbuilt Follow) = Unit {0}
IsUnprepared _ = ⊥

-- arguments that the command refuses end the run so
abbrev pub RefusesWords : Status → Type 0
RefusesWords Usage = Unit {0}
RefusesWords NoMemory = Unit {0}
RefusesWords OutFault = Unit {0}
RefusesWords _ = ⊥

-- arguments that ask for what is not built end the run so
abbrev pub RefusesLack : Lack → Status → Type 0
RefusesLack lack (Unbuilt what) = what ≡ lack
RefusesLack lack NoMemory = Unit {0}
RefusesLack lack OutFault = Unit {0}
RefusesLack lack _ = ⊥

-- the arguments, the source, out of memory or the sink end the run before its settings are known
abbrev pub IsEarlier : Status → Type 0
IsEarlier Usage = Unit {0}
IsEarlier (Unbuilt Follow) = Unit {0}
IsEarlier SourceFault = Unit {0}
IsEarlier NoMemory = Unit {0}
IsEarlier OutFault = Unit {0}
IsEarlier _ = ⊥

-- settings with a first fault end the run so
abbrev pub RefusesSettings : SettingsError → Status → Type 0
RefusesSettings fault (Settings told) = told ≡ fault
RefusesSettings fault status = IsEarlier status

-- settings that ask for what is not built end the run so
abbrev pub RefusesKey : List ℕ → Status → Type 0
RefusesKey key (Unbuilt (Key told)) = told ≡ key
RefusesKey key status = IsEarlier status

-- printing the report of a run that ended so
abbrev pub IsPrintingEnd : ℕ → ℕ → Status → Status → Type 0
IsPrintingEnd before now ended OutFault = Rose before now
IsPrintingEnd before now ended status = status ≡ ended

-- areas that are refused end the run this way, if nothing else went wrong before
abbrev pub RefusesArea : Status → Type 0
RefusesArea Usage = Unit {0}
RefusesArea SourceFault = Unit {0}
RefusesArea NoMemory = Unit {0}
RefusesArea OutFault = Unit {0}
RefusesArea DiskFault = Unit {0}
RefusesArea (Settings fault) = Unit {0}
RefusesArea (Unbuilt (Key key)) = Unit {0}
RefusesArea (Unbuilt Follow) = Unit {0}
RefusesArea (RegistryBad area at) = Unit {0}
RefusesArea _ = ⊥

-- a refusal before the run has begun
abbrev pub IsRefusal : Status → Type 0
IsRefusal Usage = Unit {0}
IsRefusal SourceFault = Unit {0}
IsRefusal (Settings fault) = Unit {0}
IsRefusal (RegistryBad area at) = Unit {0}
IsRefusal (Unbuilt (Key key)) = Unit {0}
IsRefusal (Unbuilt Follow) = Unit {0}
IsRefusal _ = ⊥

-- the statuses of a run that ended after the opening of its registry, and of no other
abbrev pub IsBehindOpening : Status → Type 0
IsBehindOpening Done = Unit {0}
IsBehindOpening Stopped = Unit {0}
IsBehindOpening FolderFault = Unit {0}
IsBehindOpening (TooMany what path) = Unit {0}
IsBehindOpening (NoNative path) = Unit {0}
IsBehindOpening (Unreachable worker failures) = Unit {0}
IsBehindOpening _ = ⊥

-- the statuses of a run that ended once its settings were known, and of no other
abbrev pub IsBehindSettings : Status → Type 0
IsBehindSettings (RegistryBad area at) = Unit {0}
IsBehindSettings DiskFault = Unit {0}
IsBehindSettings status = IsBehindOpening status
