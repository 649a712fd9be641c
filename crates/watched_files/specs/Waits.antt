-- Which listed files are to be opened after a scan, and where each is then read.
use Rattle.std.specs.Prelude.{◌≡◌, ℕ, List, Option, Some, None, if◌then◌else◌}
use Rattle.prospector_core.specs.KnownFiles.{KnownFiles, slot_with}
use Rattle.wire_base.specs.declared.numbers.Slot.{Slot}
use Rattle.file_table.specs.declared.at.At.{At}
use Rattle.file_table.specs.declared.file_entry.FileEntry.{FileEntry}
use Rattle.file_table.specs.declared.table.FileTable.{FileTable}
use Rattle.file_table.specs.Entries.{opening_at, waits_in}
use Rattle.file_table.specs.Tables.{file_of}
use Rattle.watched_files.specs.declared.slot_deed.Waiting.{Waiting}

-- a listed file that waits, with its slot and entry
pub record WaitingFile : Type 0 where
  pub slot : Slot
  pub entry : FileEntry

abbrev pub waiting_entry : ℕ → Slot → Option FileEntry → Option WaitingFile
waiting_entry number slot None = None
waiting_entry number slot (Some entry) = if waits_in number entry then Some (record { slot = slot; entry = entry }) else None

abbrev pub waiting_slot : ℕ → FileTable → Option Slot → Option WaitingFile
waiting_slot number table None = None
waiting_slot number table (Some slot) = waiting_entry number slot (file_of table slot.0)

-- of a listed file that has this key
abbrev pub waiting_key : ℕ → KnownFiles → FileTable → Option (List ℕ) → Option WaitingFile
waiting_key number known table None = None
waiting_key number known table (Some key) = waiting_slot number table (slot_with key known.files)

-- where a file that was listed with this size is read from; nowhere if its epochs are spent
abbrev pub place_of : WaitingFile → ℕ → Option At
place_of file size = opening_at file.entry.at size

abbrev pub waiting_at : WaitingFile → At → Waiting
waiting_at file at = record { slot = file.slot; at = at; registered = file.entry.registered }

-- what is answered for a listed file: that it does not wait, or how it is opened
abbrev pub IsOpenedSo : Option WaitingFile → ℕ → Option Waiting → Type 0
IsOpenedSo None size answer = answer ≡ None
IsOpenedSo (Some file) size None = ⊥
IsOpenedSo (Some file) size (Some waiting) = (place_of file size ≡ Some waiting.at) × (waiting ≡ waiting_at file waiting.at)

-- it waits, and its epochs are spent
abbrev pub IsSpent : Option WaitingFile → ℕ → Type 0
IsSpent None size = ⊥
IsSpent (Some file) size = place_of file size ≡ None
