-- What is kept of keys (this project's profile): the slots that Begins gave to each, and of each key that was noted since the
-- last commit the row that it had there.
use Rattle.std.specs.Prelude.{◌≡◌, ◌⊎◌, ℕ, Bool, true, false, max, Contains, List, [], ◌∷◌, ◌++◌, map, Option, Some, None, IsSome, unwrap_or, ◌&&◌, if◌then◌else◌}
use Rattle.std.specs.List.{filter_map, list_any}
use Rattle.std.specs.Map.{lookup}
use Rattle.std.specs.BTreeMap.{is_at}
use Rattle.std.specs.Option.{option_and_then, option_map}
use Rattle.std.specs.Ordering.{nat_cmp}
use Rattle.std.specs.Str.{bytes_eq}
use Rattle.wire_base.specs.KeyOrder.{compare}
use Rattle.wire_base.specs.Ranges.{IsKey}
use Rattle.wire_base.specs.declared.row.Row.{Row}
use Rattle.wire_base.specs.declared.row.Op.{Op}
use Rattle.wire_base.specs.declared.row.Op.TheVariants.{Set, Remove}
use Rattle.wire_base.specs.declared.note.Note.{Note}
use Rattle.wire_base.specs.declared.note.Note.TheVariants.{Begin, Announce, Settle, Rename, Seen, Forget}
use Rattle.ship_core.specs.Changes.{change_of}
use Rattle.ship_core.specs.Orderly.{AreOrderly}
use Rattle.ship_core.specs.Rows.{find}
use Rattle.ship_core.specs.RowOver.{Start, notes_of, slot_of, start_over}
use Rattle.ship_core.specs.RowsOver.{row_for}
use Rattle.ack_tracker.specs.FileState.{FileState, is_gone, row_in}
use Rattle.ack_tracker.specs.Files.{file_of, AreOf}
use Rattle.ack_tracker.specs.declared.keyed.Keyed.{Keyed}

-- what an ordered map has at a key
abbrev pub at_key : {X : Type 0} → List (List ℕ × X) → List ℕ → Option X
at_key entries key = lookup (is_at (compare key)) entries

-- ---- what is kept, by keys

-- the slots of each key
abbrev pub slots_of : List (List ℕ × Keyed) → List (List ℕ × List ℕ)
slots_of keys = map (λ entry. (entry.0, entry.1.slots)) keys

abbrev pub was_of : List ℕ × Keyed → Option (List ℕ × Option Row)
was_of entry = option_map (λ was. (entry.0, was)) entry.1.was

-- the keys that were noted since the last commit, each with the row that it had there
abbrev pub noted_of : List (List ℕ × Keyed) → List (List ℕ × Option Row)
noted_of keys = filter_map was_of keys

-- the slots of a key
abbrev pub slots_at : List (List ℕ × List ℕ) → List ℕ → List ℕ
slots_at slots key = unwrap_or (at_key slots key) []

-- ---- the row that a key has now

abbrev pub has_key : Option FileState → List ℕ → Bool
has_key None key = false
has_key (Some file) key = bytes_eq file.key key

-- the slot's file has the key, and its row did not go
abbrev pub stands : Option FileState → List ℕ → Bool
stands None key = false
stands (Some file) key = bytes_eq file.key key && (if is_gone file then false else true)

abbrev pub later : Option ℕ → ℕ → Option ℕ
later None slot = Some slot
later (Some other) slot = Some (max other slot)

-- the greatest of these slots whose rows are there
abbrev pub latest_of : List (ℕ × FileState) → List ℕ → Option ℕ → List ℕ → Option ℕ
latest_of files key latest [] = latest
latest_of files key latest (slot ∷ slots) = latest_of files key (if stands (file_of files slot) key then later latest slot else latest) slots

abbrev pub is_begun : List (ℕ × FileState) → List ℕ → List ℕ → Bool
is_begun files key slots = list_any (λ slot. has_key (file_of files slot) key) slots

-- the row of the slot's file
abbrev pub row_at : List (ℕ × FileState) → ℕ → Option Row
row_at files slot = option_and_then row_in (file_of files slot)

-- the row of a key that began with some of these slots: none if it is gone; nothing if no slot began with the key
abbrev pub row_now : List (ℕ × FileState) → List ℕ → List ℕ → Option (Option Row)
row_now files slots key = if is_begun files key slots then Some (option_and_then (row_at files) (latest_of files key None slots)) else None

-- the same, or the opening row of a key that did not begin
abbrev pub row_before : List Row → List (ℕ × FileState) → List (List ℕ × List ℕ) → List ℕ → Option Row
row_before opening files slots key = unwrap_or (row_now files (slots_at slots key) key) (find key opening)

-- the change of a noted key's row
abbrev pub change_now : List (ℕ × FileState) → List (List ℕ × List ℕ) → List ℕ × Option Row → Option Op
change_now files slots entry = option_and_then (change_of entry.0 entry.1) (row_now files (slots_at slots entry.0) entry.0)

-- the change of a key, if it was noted
abbrev pub change_kept : List (ℕ × FileState) → List ℕ × Keyed → Option Op
change_kept files entry = option_and_then (λ was. option_and_then (change_of entry.0 was) (row_now files entry.1.slots entry.0)) entry.1.was

-- ---- one note more

abbrev pub key_of_begin : Note → Option (List ℕ)
key_of_begin (Begin slot key path epoch base changed) = Some key
key_of_begin (Announce slot epoch) = None
key_of_begin (Settle slot epoch span cause) = None
key_of_begin (Rename slot scan path) = None
key_of_begin (Seen slot changed) = None
key_of_begin (Forget slot epoch end) = None

abbrev pub key_with : Option FileState → Note → Option (List ℕ)
key_with None note = key_of_begin note
key_with (Some file) note = Some file.key

-- the key whose row a note may change: that of its slot's file, or else of its Begin
abbrev pub key_noted : List (ℕ × FileState) → Note → Option (List ℕ)
key_noted files note = key_with (file_of files (slot_of note)) note

-- each key keeps the row that it had, or has it from now on
abbrev pub KeepsRows : List (List ℕ × Option Row) → List (List ℕ × Option Row) → (List ℕ → Option Row) → Type 0
KeepsRows old new rows = (key : List ℕ) → (at_key new key ≡ at_key old key) ⊎ ((at_key old key ≡ None) × IsKey key × (at_key new key ≡ Some (rows key)))

-- each key keeps its slots
abbrev pub KeepsSlots : List (List ℕ × List ℕ) → List (List ℕ × List ℕ) → Type 0
KeepsSlots old new = (key : List ℕ) (slot : ℕ) → Contains (slots_at old key) slot → Contains (slots_at new key) slot

-- each of these slots has a file, whose key was noted
abbrev pub AreFresh : List ℕ → List (ℕ × FileState) → List (List ℕ × Option Row) → Type 0
AreFresh fresh files noted = (slot : ℕ) → list_any (is_at (nat_cmp slot)) fresh ≡ true → (file : FileState) × (file_of files slot ≡ Some file) × IsSome (at_key noted file.key)

-- ---- what holds of any tracker

pub record IsTracker (opening : List Row) (files : List (ℕ × FileState)) (slots : List (List ℕ × List ℕ)) (noted : List (List ℕ × Option Row)) (fresh : List ℕ) (notes committed : List Note) : Type 0 where
  pub are : AreOf files notes
  pub indexed : (slot : ℕ) (file : FileState) → file_of files slot ≡ Some file → Contains (slots_at slots file.key) slot
  pub front : (rest : List Note) × (notes ≡ committed ++ rest)
  pub rows : AreOrderly notes → (key : List ℕ) → unwrap_or (at_key noted key) (row_for opening notes key) ≡ row_for opening committed key
  pub keys : (key : List ℕ) (was : Option Row) → at_key noted key ≡ Some was → IsKey key
  pub fresh_are : AreFresh fresh files noted

-- an operation that sets a row sets that of a slot which began with its key and whose row did not go
abbrev pub SetsBegun : List Note → List ℕ → Op → Type 0
SetsBegun notes gone (Set row) = (slot : ℕ) × (start : Start) × (start_over (notes_of slot notes) ≡ Some start) × (start.key ≡ row.key) × ¬ (Contains gone slot)
SetsBegun notes gone (Remove key) = Unit {0}
