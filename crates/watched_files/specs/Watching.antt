-- The files that a prospector knows, and a table that has an entry of each of them and of no other.
use Rattle.std.specs.Prelude.{◌≡◌, ℕ, ◌==◌, ◌≤◌, ◌<◌, Bool, false, List, [], ◌∷◌, ◌||◌, Option, None, is_some}
use Rattle.prospector_core.specs.declared.known.Known.{Known}
use Rattle.prospector_core.specs.declared.prospect_error.ProspectError.{ProspectError}
use Rattle.prospector_core.specs.declared.prospect_error.ProspectError.TheVariants.{TooMany, NoMemory}
use Rattle.prospector_core.specs.declared.seen.Seen.{Seen}
use Rattle.prospector_core.specs.Changes.{known_after}
use Rattle.prospector_core.specs.KnownFiles.{AreKnown, KnownFiles}
use Rattle.file_table.specs.declared.file_entry.FileEntry.{FileEntry}
use Rattle.file_table.specs.declared.table.FileTable.{FileTable}
use Rattle.file_table.specs.Events.{SlotEvent, events_of}
use Rattle.file_table.specs.Standing.{is_known}
use Rattle.file_table.specs.Tables.{StandsFor, file_of}
use Rattle.watched_files.specs.declared.slot_deed.SlotDeed.{SlotDeed}
use Rattle.watched_files.specs.Telling.{after_scan, scan_deeds}

-- one of the files has the slot
abbrev pub has_slot : ℕ → List Known → Bool
has_slot slot [] = false
has_slot slot (file ∷ files) = (file.slot.0 == slot) || has_slot slot files

-- the table took in some events
pub record HasHistory (table : FileTable) : Type 0 where
  pub told : List SlotEvent
  pub stands : StandsFor told table

-- the table took in some events, and has an entry of each known file and of no other
pub record AreWatched (files : KnownFiles) (table : FileTable) : Type 0 where
  pub known : AreKnown files
  pub history : ∥ HasHistory table ∥₁
  pub same_slots : (slot : ℕ) → is_some (file_of table slot) ≡ has_slot slot files.files

-- each slot has the entry that it had
abbrev pub HaveSameFiles : FileTable → FileTable → Type 0
HaveSameFiles old new = (slot : ℕ) → file_of new slot ≡ file_of old slot

-- ---- a scan

-- what is known is what the prospector's definitions say; the table took in the events of the scan; and these are the deeds
-- that they ask for, by all events before them
pub record TakesScan (number : ℕ) (clean : List Bool) (whole : Bool) (seen : List Seen) (old : KnownFiles) (table : FileTable) (deeds : List SlotDeed) (new : KnownFiles) (later : FileTable) : Type 0 where
  pub known : new ≡ known_after clean whole old seen
  pub tells : (told : List SlotEvent) → StandsFor told table → StandsFor (after_scan number clean whole old seen told) later
  pub asks : (told : List SlotEvent) → StandsFor told table → deeds ≡ scan_deeds number clean whole old seen told

-- it is too many that is refused, and not memory
abbrev pub IsTooMany : ProspectError → Type 0
IsTooMany (TooMany what path) = Unit {0}
IsTooMany NoMemory = ⊥

-- ---- parts of a scan; only private calls cite what follows

-- the slots from the first to the last have this entry, and each other slot has the entry that it had
pub record HasPut (entry : Option FileEntry) (first last : ℕ) (old new : FileTable) : Type 0 where
  pub within : (slot : ℕ) → first ≤ slot → slot < last → file_of new slot ≡ entry
  pub below : (slot : ℕ) → slot < first → file_of new slot ≡ file_of old slot
  pub above : (slot : ℕ) → last ≤ slot → file_of new slot ≡ file_of old slot

-- the table has no entry from this slot on
abbrev pub IsFreeFrom : ℕ → FileTable → Type 0
IsFreeFrom first table = (slot : ℕ) → first ≤ slot → file_of table slot ≡ None

-- the table took in more events, and has entries of the same slots
pub record IsLater (told : List SlotEvent) (table : FileTable) : Type 0 where
  pub more : List SlotEvent
  pub stands : StandsFor more table
  pub same : (slot : ℕ) → is_known (events_of slot more) ≡ is_known (events_of slot told)

abbrev pub KeepsSlots : FileTable → FileTable → Type 0
KeepsSlots old new = (told : List SlotEvent) → StandsFor told old → IsLater told new
