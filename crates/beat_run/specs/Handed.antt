-- The objects that a run is handed (this project's profile): what shows of them at one moment, in the words of their contracts, and what
-- goes on whatever a run does with them.
use Rattle.std.specs.Prelude.{◌≡◌, ℕ, ◌+◌, ◌-◌, ◌^◌, ◌<◌, All, length, map, List, Option, IsSome}
use Rattle.event_tree.specs.declared.settings.Settings.{Settings}
use Rattle.outside.specs.Folders.{FolderHistory}
use Rattle.outside.specs.declared.bell.Bell.{Ghosts as BellGhosts}
use Rattle.outside.specs.declared.clock.Clock.{Ghosts as ClockGhosts}
use Rattle.outside.specs.declared.disk.Disk.{Ghosts as DiskGhosts}
use Rattle.outside.specs.declared.folder.Folder.{Ghosts as FolderGhosts}
use Rattle.outside.specs.declared.wire.Wire.{Ghosts as WireGhosts}
use Rattle.report.specs.declared.status.Status.{Status}
use Rattle.rounds.specs.Making.{all_seen}
use Rattle.rounds.specs.Words.{DiskWords, WireWords}
use Rattle.rounds.specs.WordsOf.{disks_of, wires_of}
use Rattle.run_steps.specs.AccountedFor.{Objects, RunObjects}
use Rattle.run_steps.specs.ClockOn.{MomentsGoOn}
use Rattle.run_steps.specs.Questions.{AsksOn, Questions, questions_of}
use Rattle.beat_run.specs.Accounted.{Lent, RunLent}
use Rattle.beat_run.specs.Cause.{CauseBy, Signs}
use Rattle.beat_run.specs.declared.objects.Outside.{Outside}

-- the words in which the contracts of the objects' calls speak
pub record OutsideWords (F W D K B : Type 0) : Type 1 where
  pub told : F → Option FolderHistory
  pub open_tails : F → ℕ
  pub folder_faults : F → ℕ
  pub wires : WireWords W
  pub disks : DiskWords D
  pub moments : K → Option (List ℕ)
  pub rings : B → ℕ
  pub questions : K → B → Questions

abbrev pub outside_words : {F T W L D K B : Type 0} → FolderGhosts F T → WireGhosts W L → DiskGhosts D → ClockGhosts K → BellGhosts B → OutsideWords F W D K B
outside_words folder wire disk clock bell = record {
  told = folder.told;
  open_tails = folder.open_tails;
  folder_faults = folder.faults;
  wires = wires_of wire;
  disks = disks_of disk;
  moments = clock.moments;
  rings = bell.rings;
  questions = questions_of clock bell;
}

-- the objects at one moment
pub record Handed (F W D K B : Type 0) : Type 0 where
  pub folder : F
  pub wires : List W
  pub a : D
  pub b : D
  pub clock : K
  pub bell : B

abbrev pub handed : {F W D K B : Type 0} → F → List W → D → D → K → B → Handed F W D K B
handed folder wires a b clock bell = record { folder = folder; wires = wires; a = a; b = b; clock = clock; bell = bell }

abbrev pub handed_in : {F W D K B : Type 0} → Outside F W D K B → Handed F W D K B
handed_in outside = handed outside.folder.now outside.wires.now.items outside.a.now outside.b.now outside.clock.now outside.bell.now

-- without their clock and their bell
abbrev pub lent_of : {F W D K B : Type 0} → Handed F W D K B → Lent F W D
lent_of now = record { folder = now.folder; wires = now.wires; a = now.a; b = now.b }

-- before and after
abbrev pub lent_by : {F W D K B : Type 0} → Handed F W D K B → Handed F W D K B → RunLent F W D
lent_by before after = record { before = lent_of before; after = lent_of after }

module _ {F W D K B : Type 0} (words : OutsideWords F W D K B) where
  -- what shows why a run ended
  abbrev pub signs_of : Handed F W D K B → Signs
  signs_of now = record {
    folder = words.told now.folder;
    moments = words.moments now.clock;
    questions = words.questions now.clock now.bell;
    wires = all_seen words.wires now.wires;
    counts = record {
      a_faults = words.disks.faults now.a;
      b_faults = words.disks.faults now.b;
      folder_faults = words.folder_faults now.folder;
      rings = words.rings now.bell;
    };
  }

  -- what a run is accounted for by
  abbrev pub objects_of : Handed F W D K B → Objects D
  objects_of now = record {
    folder = words.told now.folder;
    moments = words.moments now.clock;
    questions = words.questions now.clock now.bell;
    outcomes = map words.wires.outcomes now.wires;
    a = now.a;
    b = now.b;
  }

  abbrev pub objects_by : Handed F W D K B → Handed F W D K B → RunObjects D
  objects_by before after = record { before = objects_of before; after = objects_of after }

  -- why a part of a run ended so
  abbrev pub CausedIn : Settings → Outside F W D K B → Outside F W D K B → Status → Type 0
  CausedIn settings old new status = CauseBy settings (signs_of (handed_in old)) (signs_of (handed_in new)) status

  -- the clock's list stays in front, it is asked as often as the bell, the wires are as many, each tail is closed and each link finished if folder and wires can count
  -- them, and an area whose content was known is known still
  pub record GoesOn (old new : Outside F W D K B) : Type 0 where
    pub clock : MomentsGoOn (words.moments old.clock.now) (words.moments new.clock.now)
    pub asks : AsksOn 0 (words.questions old.clock.now old.bell.now) (words.questions new.clock.now new.bell.now)
    pub wires : length new.wires.now.items ≡ length old.wires.now.items
    pub tails : words.open_tails old.folder.now + 65_536 < 2 ^ 64 - 1 → words.open_tails new.folder.now ≡ words.open_tails old.folder.now
    pub links : All (λ (w : W). words.wires.open_links w < 2 ^ 64 - 1) old.wires.now.items → map words.wires.open_links new.wires.now.items ≡ map words.wires.open_links old.wires.now.items
    pub a_told : IsSome (words.disks.contents old.a.now) → IsSome (words.disks.contents new.a.now)
    pub b_told : IsSome (words.disks.contents old.b.now) → IsSome (words.disks.contents new.b.now)

-- each object is the same one
pub record SameOutside {F W D K B : Type 0} (old new : Outside F W D K B) : Type 0 where
  pub folder : new.folder.ghost_name ≡ old.folder.ghost_name
  pub wires : new.wires.ghost_name ≡ old.wires.ghost_name
  pub a : new.a.ghost_name ≡ old.a.ghost_name
  pub b : new.b.ghost_name ≡ old.b.ghost_name
  pub clock : new.clock.ghost_name ≡ old.clock.ghost_name
  pub bell : new.bell.ghost_name ≡ old.bell.ghost_name
