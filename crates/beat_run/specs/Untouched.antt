-- Which runs are refused before they have begun (this project's profile).
use Rattle.std.specs.Prelude.{◌≡◌, ◌⊎◌, ℕ, List, take, Option, IsSomeAnd, Some}
use Rattle.beat_config.specs.Document.{AreSettingsOf, IsFirstFault}
use Rattle.beat_config.specs.declared.settings_error.SettingsError.{SettingsError}
use Rattle.command_line.specs.Words.{IsNoCommand}
use Rattle.event_tree.specs.declared.settings.Settings.{Settings}
use Rattle.outside.specs.declared.disk.Disk.{Ghosts as DiskGhosts}
use Rattle.prospect.specs.Lacks.{IsFirstLack}
use Rattle.registry_log.specs.OnlyRead.{IsOnlyRead}
use Rattle.report.specs.declared.status.Lack.{Lack}
use Rattle.run_steps.specs.Registry.{AreRefusedAt}
use Rattle.wire_base.specs.declared.limits.Which.{Which}
use Rattle.beat_run.specs.Asked.{AskFor}
use Rattle.beat_run.specs.declared.objects.Outside.{Outside}
use Rattle.beat_run.specs.declared.settings.TheConstants.{LIMIT}

-- the bytes are settings that ask for what is not built, by this key first
pub record AskByKey (bytes key : List ℕ) : Type 0 where
  pub settings : Settings
  pub are : AreSettingsOf bytes settings
  pub first : IsFirstLack settings key

-- the command refuses the arguments, or they ask for what is not built; the settings have a fault, or ask for what is
-- not built; or both areas are known, and are refused
abbrev pub IsRefused : List (List ℕ) → Option (List ℕ) → Option (List ℕ) → Option (List ℕ) → Type 0
IsRefused words source first second =
    IsNoCommand words
    ⊎ (((lack : Lack) × AskFor words lack)
    ⊎ (IsSomeAnd source (λ bytes. (fault : SettingsError) × IsFirstFault (take LIMIT bytes) fault)
    ⊎ (IsSomeAnd source (λ bytes. (key : List ℕ) × AskByKey (take LIMIT bytes) key)
    ⊎ IsSomeAnd first (λ one. IsSomeAnd second (λ other. (area : Which) × (at : ℕ) × AreRefusedAt one other area at)))))

-- the same if both areas are known, and are refused
abbrev pub IfAreasRefused : {D : Type 0} → DiskGhosts D → D → D → Type 0 → Type 0
IfAreasRefused disk a b P = (first second : List ℕ) (area : Which) (at : ℕ) → disk.contents a ≡ Some first → disk.contents b ≡ Some second →
    AreRefusedAt first second area at → P

-- an area was only read
abbrev pub IsOnlyReadBy : {D : Type 0} → DiskGhosts D → D → D → Type 0
IsOnlyReadBy disk old new = IsOnlyRead disk.contents disk.images disk.moment disk.images_since disk.faults old new

-- so both were, and folder and wires are as before
pub record LeavesUntouched {F W D K B : Type 0} (disk : DiskGhosts D) (old new : Outside F W D K B) : Type 0 where
  pub a : IsOnlyReadBy disk old.a.now new.a.now
  pub b : IsOnlyReadBy disk old.b.now new.b.now
  pub folder : new.folder.now ≡ old.folder.now
  pub wires : new.wires.now.items ≡ old.wires.now.items
