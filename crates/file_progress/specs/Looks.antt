-- What a look shows (this project's profile): the settings that the source spells, the rows that both registry areas give by
-- the choice between them, the files that one scan reports, and these joined.
use Rattle.std.specs.Prelude.{◌≡◌, ℕ, List, take, Option, Some, IfSome}
use Rattle.beat_config.specs.Document.{AreSettingsOf}
use Rattle.event_tree.specs.declared.settings.Settings.{Settings}
use Rattle.outside.specs.Folders.{FolderHistory}
use Rattle.outside.specs.Times.{GivesMoment}
use Rattle.outside.specs.declared.clock.Clock.{Ghosts as ClockGhosts}
use Rattle.outside.specs.declared.disk.Disk.{Ghosts as DiskGhosts}
use Rattle.outside.specs.declared.folder.Folder.{Ghosts as FolderGhosts}
use Rattle.report.specs.declared.status.Status.{Status}
use Rattle.file_progress.specs.Causes.{Faults, ShowsScanEnd}
use Rattle.file_progress.specs.Progress.{progress_of}
use Rattle.file_progress.specs.Registry.{GivesRegistry}
use Rattle.file_progress.specs.Scanning.{TellsScan}
use Rattle.file_progress.specs.declared.overview.Outside.{Outside}
use Rattle.file_progress.specs.declared.overview.Overview.{Overview}
use Rattle.file_progress.specs.declared.registry.Registry.{Registry}
use Rattle.file_progress.specs.declared.scan.Scan.{Scan}
use Rattle.file_progress.specs.declared.settings.TheConstants.{LIMIT}

-- what was known of the objects of a look as it began, and of folder and clock as it ended
pub record Told : Type 0 where
  pub settings : Option (List ℕ)
  pub area_a : Option (List ℕ)
  pub area_b : Option (List ℕ)
  pub folder : Option FolderHistory
  pub folder_after : Option FolderHistory
  pub moments : Option (List ℕ)
  pub moments_after : Option (List ℕ)

abbrev pub told_by : {F T D K : Type 0} → FolderGhosts F T → DiskGhosts D → ClockGhosts K → Option (List ℕ) → Outside F D K → Outside F D K → Told
told_by folders disks clocks settings old new = record {
  settings = settings;
  area_a = disks.contents old.area_a;
  area_b = disks.contents old.area_b;
  folder = folders.told old.folder;
  folder_after = folders.told new.folder;
  moments = clocks.moments old.clock;
  moments_after = clocks.moments new.clock;
}

-- how often they have failed, with this count of the source
abbrev pub faults_of : {F T D K : Type 0} → FolderGhosts F T → DiskGhosts D → ℕ → Outside F D K → Faults
faults_of folders disks source outside = record {
  source = source;
  folder = folders.faults outside.folder;
  area_a = disks.faults outside.area_a;
  area_b = disks.faults outside.area_b;
}

-- the settings that all bytes of the source spell, as far as these are known
abbrev pub IsNamed : Told → Settings → Type 0
IsNamed told settings = IfSome told.settings (λ bytes. AreSettingsOf (take LIMIT bytes) settings)

pub record Looks (told : Told) (overview : Overview) : Type 0 where
  pub settings : Settings
  pub named : IsNamed told settings
  pub registry : Registry
  pub given : (first second : List ℕ) → told.area_a ≡ Some first → told.area_b ≡ Some second → GivesRegistry first second registry
  pub scan : Scan
  pub scanned : IfSome told.folder (λ before. TellsScan settings.inputs before scan told.folder_after)
  pub files : overview.files.items ≡ progress_of registry.rows scan
  pub generation : overview.generation ≡ registry.generation
  pub moment : GivesMoment told.moments overview.moment.0 told.moments_after

-- a look that found too many files, or one without native numbers, has listed this
pub record ListsTooMuch (told : Told) (status : Status) : Type 0 where
  pub settings : Settings
  pub named : IsNamed told settings
  pub shows : IfSome told.folder (λ before. ShowsScanEnd settings.inputs before status told.folder_after)
