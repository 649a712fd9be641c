-- A part of a scan's events that is told one after another: what was told by now, and what is left. Only private calls cite it.
use Rattle.std.specs.Prelude.{◌≡◌, ℕ, Bool, ◌≤◌, ◌<◌, List, ◌++◌, All, AllPairs, is_some}
use Rattle.prospector_core.specs.declared.known.Known.{Known}
use Rattle.prospector_core.specs.KnownFiles.{StandsBefore}
use Rattle.file_table.specs.declared.table.FileTable.{FileTable}
use Rattle.file_table.specs.Events.{SlotEvent}
use Rattle.file_table.specs.Tables.{StandsFor, file_of}
use Rattle.watched_files.specs.declared.slot_deed.SlotDeed.{SlotDeed}
use Rattle.watched_files.specs.Telling.{deeds_by, missed_events, missed_if, tell}
use Rattle.watched_files.specs.Watching.{HasHistory, has_slot}

-- so much was told that these events are left of all of them
pub record TellsOn (told all left : List SlotEvent) (table : FileTable) : Type 0 where
  pub now : List SlotEvent
  pub stands : StandsFor now table
  pub all_told : tell now left ≡ tell told all

abbrev pub Tells : List SlotEvent → List SlotEvent → FileTable → FileTable → Type 0
Tells all left old new = (told : List SlotEvent) → StandsFor told old → TellsOn told all left new

-- the same, with the deeds so far
pub record AsksOn (told all left : List SlotEvent) (earlier deeds : List SlotDeed) (table : FileTable) : Type 0 where
  pub now : List SlotEvent
  pub stands : StandsFor now table
  pub all_told : tell now left ≡ tell told all
  pub all_asked : deeds ++ deeds_by now left ≡ earlier ++ deeds_by told all

abbrev pub Asks : List SlotEvent → List SlotEvent → List SlotDeed → List SlotDeed → FileTable → FileTable → Type 0
Asks all left earlier deeds old new = (told : List SlotEvent) → StandsFor told old → AsksOn told all left earlier deeds new

-- the files that are left, of those that a scan may have missed
pub record MissesOn (number : ℕ) (told : List SlotEvent) (files left : List Known) (earlier deeds : List SlotDeed) (table : FileTable) : Type 0 where
  pub now : List SlotEvent
  pub stands : StandsFor now table
  pub all_told : tell now (missed_events number now left) ≡ tell told (missed_events number told files)
  pub all_asked : deeds ++ deeds_by now (missed_events number now left) ≡ earlier ++ deeds_by told (missed_events number told files)

pub record Misses (number : ℕ) (files : List Known) (next : ℕ) (earlier deeds : List SlotDeed) (from : ℕ) (old new : FileTable) : Type 0 where
  pub history : ∥ HasHistory new ∥₁
  pub left : List Known
  pub apart : AllPairs StandsBefore left
  pub above : All (λ file. from ≤ file.slot.0) left
  pub below : All (λ file. file.slot.0 < next) left
  pub same_slots : (slot : ℕ) → from ≤ slot → slot < next → is_some (file_of new slot) ≡ has_slot slot left
  pub so : (told : List SlotEvent) → StandsFor told old → MissesOn number told files left earlier deeds new

-- all of them
pub record MissesAll (number : ℕ) (whole : Bool) (files : List Known) (earlier deeds : List SlotDeed) (old new : FileTable) : Type 0 where
  pub tells : (told : List SlotEvent) → StandsFor told old → StandsFor (tell told (missed_if whole number told files)) new
  pub asks : (told : List SlotEvent) → StandsFor told old → deeds ≡ earlier ++ deeds_by told (missed_if whole number told files)
