-- What is kept of files, by their slots (this project's profile).
use Rattle.std.specs.Prelude.{◌≡◌, ◌≢◌, ◌⊎◌, ℕ, Bool, false, List, Option, Some, None, if◌then◌else◌}
use Rattle.std.specs.List.{filter_map}
use Rattle.std.specs.Map.{lookup}
use Rattle.std.specs.BTreeMap.{is_at}
use Rattle.std.specs.Ordering.{nat_cmp}
use Rattle.wire_base.specs.declared.note.Note.{Note}
use Rattle.ship_core.specs.Orderly.{AreOrderly}
use Rattle.ship_core.specs.RowOver.{Start, notes_of, start_over}
use Rattle.ack_tracker.specs.FileState.{FileState, is_gone, Stands}

abbrev pub file_of : List (ℕ × FileState) → ℕ → Option FileState
file_of files slot = lookup (is_at (nat_cmp slot)) files

-- there is a file, and its row went
abbrev pub went : Option FileState → Bool
went None = false
went (Some file) = is_gone file

abbrev pub gone_slot : List (ℕ × FileState) → ℕ × FileState → Option ℕ
gone_slot files entry = if went (file_of files entry.0) then Some entry.0 else None

-- the slots whose rows went
abbrev pub gone_among : List (ℕ × FileState) → List ℕ
gone_among files = filter_map (gone_slot files) files

-- each slot that was begun has its file; and if notes are orderly, this is what they come to
pub record AreOf (files : List (ℕ × FileState)) (notes : List Note) : Type 0 where
  pub begun : (slot : ℕ) (file : FileState) → file_of files slot ≡ Some file → (start : Start) × (start_over (notes_of slot notes) ≡ Some start) × (start.key ≡ file.key)
  pub none : (slot : ℕ) → file_of files slot ≡ None → start_over (notes_of slot notes) ≡ None
  pub stand : AreOrderly notes → (slot : ℕ) (file : FileState) → file_of files slot ≡ Some file → Stands (notes_of slot notes) file

-- one slot has this file now, and the others have what they had
pub record Puts (old new : List (ℕ × FileState)) (slot : ℕ) (file : FileState) : Type 0 where
  pub here : file_of new slot ≡ Some file
  pub others : (other : ℕ) → other ≢ slot → file_of new other ≡ file_of old other

-- the slot begins with this file, or goes on with the one that it has
abbrev pub Begins : List (ℕ × FileState) → List (ℕ × FileState) → ℕ → FileState → Type 0
Begins old new slot file = ((there : FileState) × (file_of old slot ≡ Some there) × (new ≡ old)) ⊎ ((file_of old slot ≡ None) × Puts old new slot file)
