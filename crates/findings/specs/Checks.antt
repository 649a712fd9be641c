-- A whole check (this project's profile): the settings that the source spells, what is seen of their files and of the hosts,
-- and what is printed of that; or why there is nothing to check.
use Rattle.std.specs.Prelude.{◌≡◌, ℕ, Bool, true, false, List, [], take, Option, IfSome, Result, Ok}
use Rattle.beat_config.specs.Document.{AreSettingsOf, IsFirstFault}
use Rattle.event_tree.specs.declared.settings.Settings.{Settings}
use Rattle.outside.specs.Counts.{Rose}
use Rattle.outside.specs.Folders.{FolderHistory}
use Rattle.outside.specs.declared.failed.Failed.{Failed}
use Rattle.outside.specs.declared.folder.Folder.{Ghosts as FolderGhosts}
use Rattle.prospect.specs.Lacks.{IsFirstLack}
use Rattle.report.specs.Writing.{WritesAll}
use Rattle.report.specs.declared.status.Lack.TheVariants.{Key}
use Rattle.report.specs.declared.status.Status.{Status}
use Rattle.report.specs.declared.status.Status.TheVariants.{NoMemory, NoNative, OutFault, Settings as SettingsFault, SourceFault, TooMany, Unbuilt}
use Rattle.wire_base.specs.declared.host.Host.{Host}
use Rattle.wire_base.specs.declared.limits.Full.TheVariants.{Files}
use Rattle.findings.specs.Findings.{findings_of}
use Rattle.findings.specs.Page.{ending_of, page_of, reasons_of}
use Rattle.findings.specs.Scanning.{ShowsEnd}
use Rattle.findings.specs.Seeing.{SeesFiles, TriesAll}
use Rattle.findings.specs.System.{SystemTold}
use Rattle.findings.specs.declared.asked.Asked.{Asked}
use Rattle.findings.specs.declared.checking.Outside.{Outside}
use Rattle.findings.specs.declared.ending.Ending.{Ending}
use Rattle.findings.specs.declared.ending.Ending.TheVariants.{Refused, Unreachable, Unreadable, Well}
use Rattle.findings.specs.declared.hosts.Hosts.{Ghosts as HostGhosts}
use Rattle.findings.specs.declared.seen.Seen.{Seen}
use Rattle.findings.specs.declared.settings.TheConstants.{LIMIT}
use Rattle.findings.specs.declared.system.System.{Ghosts as SystemGhosts}
use Rattle.findings.specs.declared.trial.Trial.{Trial}

-- what was known of folder, system and hosts as something began, and of folder and hosts as it ended, with the folder's faults
pub record Told : Type 0 where
  pub folder : Option FolderHistory
  pub folder_after : Option FolderHistory
  pub faults : ℕ
  pub faults_after : ℕ
  pub system : Option SystemTold
  pub tried : Option (List Trial)
  pub tried_after : Option (List Trial)

abbrev pub told_by : {F T Y H : Type 0} → FolderGhosts F T → SystemGhosts Y → HostGhosts H → Outside F Y H → Outside F Y H → Told
told_by folders systems hosts old new = record {
  folder = folders.told old.folder;
  folder_after = folders.told new.folder;
  faults = folders.faults old.folder;
  faults_after = folders.faults new.folder;
  system = systems.told old.system;
  tried = hosts.tried old.hosts;
  tried_after = hosts.tried new.hosts;
}

-- each host once if that is asked for, and else none
abbrev pub TriesIf : Bool → Option (List Trial) → List Host → List Trial → Option (List Trial) → Type 0
TriesIf true before hosts trials after = TriesAll before hosts trials after
TriesIf false before hosts trials after = (trials ≡ []) × (after ≡ before)

pub record Sees (asked : Asked) (told : Told) (settings : Settings) (seen : Seen) : Type 0 where
  pub files : IfSome told.folder (λ before. SeesFiles told.system settings.inputs before seen.files told.folder_after)
  pub failed_only_where_faults_rose : seen.files.failed ≡ true → Rose told.faults told.faults_after
  pub open_limit : IfSome told.system (λ system. seen.open_limit ≡ system.open_limit)
  pub write_refusal : IfSome told.system (λ system. seen.write_refusal ≡ system.write_refusal asked.data)
  pub trials : TriesIf asked.connect told.tried settings.output.hosts seen.trials.items told.tried_after

-- the settings that all bytes of the source spell, as far as these are known
abbrev pub IsNamed : Option (List ℕ) → Settings → Type 0
IsNamed left settings = IfSome left (λ bytes. AreSettingsOf (take LIMIT bytes) settings)

-- what both sinks held before and after
pub record Streams : Type 0 where
  pub out : Option (List ℕ)
  pub out_after : Option (List ℕ)
  pub err : Option (List ℕ)
  pub err_after : Option (List ℕ)

-- what was seen is printed: the findings to the one sink, and to the other, which may fail, why the check ends so
pub record Prints (asked : Asked) (settings : Settings) (seen : Seen) (ending : Ending) (streams : Streams) : Type 0 where
  pub ending_is : ending ≡ ending_of seen.files.failed (findings_of asked.data settings seen)
  pub page : WritesAll streams.out (page_of seen.files.globs.items (findings_of asked.data settings seen)) (Ok tt) streams.out_after
  pub answer : Result (Unit {0}) Failed
  pub reasons : WritesAll streams.err (reasons_of (findings_of asked.data settings seen)) answer streams.err_after

pub record Checks (asked : Asked) (left : Option (List ℕ)) (told : Told) (ending : Ending) (streams : Streams) : Type 0 where
  pub settings : Settings
  pub named : IsNamed left settings
  pub seen : Seen
  pub sees : Sees asked told settings seen
  pub prints : Prints asked settings seen ending streams

-- ---- why there is nothing to check

-- the settings ask by this key, the first such, for what is not built
pub record HasLack (left : Option (List ℕ)) (key : List ℕ) : Type 0 where
  pub settings : Settings
  pub named : IsNamed left settings
  pub first : IsFirstLack settings key

-- the scan found too many files, or one without native numbers
pub record ListsTooMuch (left : Option (List ℕ)) (told : Told) (status : Status) : Type 0 where
  pub settings : Settings
  pub named : IsNamed left settings
  pub shows : IfSome told.folder (λ before. ShowsEnd settings.inputs before status told.folder_after)

-- a count of faults before and after
pub record Count : Type 0 where
  pub before : ℕ
  pub now : ℕ

-- by the counts of source and sink; only out of memory needs no cause, and no other status comes
abbrev pub IsRefusal : Option (List ℕ) → Told → Count → Count → Status → Type 0
IsRefusal left told source out (SettingsFault fault) = IfSome left (λ bytes. IsFirstFault (take LIMIT bytes) fault)
IsRefusal left told source out SourceFault = Rose source.before source.now
IsRefusal left told source out OutFault = Rose out.before out.now
IsRefusal left told source out (Unbuilt (Key key)) = HasLack left key
IsRefusal left told source out (TooMany Files path) = ListsTooMuch left told (TooMany Files path)
IsRefusal left told source out (NoNative path) = ListsTooMuch left told (NoNative path)
IsRefusal left told source out NoMemory = Unit {0}
IsRefusal left told source out _ = ⊥

abbrev pub IsEnd : Option (List ℕ) → Told → Count → Count → Ending → Type 0
IsEnd left told source out Well = Unit {0}
IsEnd left told source out Unreadable = Unit {0}
IsEnd left told source out Unreachable = Unit {0}
IsEnd left told source out (Refused status) = IsRefusal left told source out status

-- ---- for private clauses

abbrev pub streams_of : Option (List ℕ) → Option (List ℕ) → Option (List ℕ) → Option (List ℕ) → Streams
streams_of out out_after err err_after = record { out = out; out_after = out_after; err = err; err_after = err_after }

abbrev pub IsSettingsEnd : Option (List ℕ) → ℕ → ℕ → Status → Type 0
IsSettingsEnd left before now (SettingsFault fault) = IfSome left (λ bytes. IsFirstFault (take LIMIT bytes) fault)
IsSettingsEnd left before now SourceFault = Rose before now
IsSettingsEnd left before now NoMemory = Unit {0}
IsSettingsEnd left before now _ = ⊥

abbrev pub IsSeeingEnd : Settings → Told → Status → Type 0
IsSeeingEnd settings told (Unbuilt (Key key)) = IsFirstLack settings key
IsSeeingEnd settings told (TooMany Files path) = IfSome told.folder (λ before. ShowsEnd settings.inputs before (TooMany Files path) told.folder_after)
IsSeeingEnd settings told (NoNative path) = IfSome told.folder (λ before. ShowsEnd settings.inputs before (NoNative path) told.folder_after)
IsSeeingEnd settings told NoMemory = Unit {0}
IsSeeingEnd settings told _ = ⊥

abbrev pub IsTellingEnd : Count → Ending → Type 0
IsTellingEnd out Well = Unit {0}
IsTellingEnd out Unreadable = Unit {0}
IsTellingEnd out Unreachable = Unit {0}
IsTellingEnd out (Refused OutFault) = Rose out.before out.now
IsTellingEnd out (Refused NoMemory) = Unit {0}
IsTellingEnd out (Refused _) = ⊥
