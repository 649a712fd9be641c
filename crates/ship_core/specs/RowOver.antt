-- The row of a slot over notes (this project's profile of how Filebeat keeps a file's state). Its epoch is the greatest
-- that any note of the slot names. Its base is that of the Begin for the epoch of the Begin, and 0 for every other. Its
-- offset is the covered end of the base by the spans that were settled for its epoch, so notes of older epochs change
-- nothing. Its path is that of the Rename with the greatest scan number, or else of the Begin. Its moment of the last
-- change is the greatest that its Begin and its Seen notes carry. It is gone if some Forget of the slot names an epoch
-- and an end that are not above its own epoch and offset.
use Rattle.std.specs.Prelude.{ℕ, Bool, false, List, [], ◌∷◌, max, fold, filter, Option, Some, None, unwrap_or, nat_lt, nat_le, ◌==◌, ◌&&◌, ◌||◌, if◌then◌else◌}
use Rattle.std.specs.List.{filter_map, list_any}
use Rattle.std.specs.Option.{option_map, option_and_then}
use Rattle.wire_base.specs.Extent.{Extent}
use Rattle.wire_base.specs.declared.numbers.Epoch.{Epoch}
use Rattle.wire_base.specs.declared.row.Row.{Row}
use Rattle.wire_base.specs.declared.note.Note.{Note}
use Rattle.wire_base.specs.declared.note.Note.TheVariants.{Begin, Announce, Settle, Rename, Seen, Forget}
use Rattle.ship_core.specs.CoveredEnd.{covered_end}

-- ---- what one note says

abbrev pub slot_of : Note → ℕ
slot_of (Begin slot key path epoch base changed) = slot.0
slot_of (Announce slot epoch) = slot.0
slot_of (Settle slot epoch span cause) = slot.0
slot_of (Rename slot scan path) = slot.0
slot_of (Seen slot changed) = slot.0
slot_of (Forget slot epoch end) = slot.0

-- the epoch that a note names
abbrev pub epoch_of : Note → Option ℕ
epoch_of (Begin slot key path epoch base changed) = Some epoch.0
epoch_of (Announce slot epoch) = Some epoch.0
epoch_of (Settle slot epoch span cause) = Some epoch.0
epoch_of (Rename slot scan path) = None
epoch_of (Seen slot changed) = None
epoch_of (Forget slot epoch end) = Some epoch.0

-- how a file begins
pub record Start : Type 0 where
  pub key : List ℕ
  pub path : List ℕ
  pub epoch : ℕ
  pub base : ℕ

abbrev pub start_of : Note → Option Start
start_of (Begin slot key path epoch base changed) = Some (record { key = key; path = path; epoch = epoch.0; base = base })
start_of (Announce slot epoch) = None
start_of (Settle slot epoch span cause) = None
start_of (Rename slot scan path) = None
start_of (Seen slot changed) = None
start_of (Forget slot epoch end) = None

-- the moment of change that a note carries
abbrev pub moment_of : Note → Option ℕ
moment_of (Begin slot key path epoch base changed) = Some changed.0
moment_of (Announce slot epoch) = None
moment_of (Settle slot epoch span cause) = None
moment_of (Rename slot scan path) = None
moment_of (Seen slot changed) = Some changed.0
moment_of (Forget slot epoch end) = None

-- the span that a note settles for an epoch
abbrev pub span_in : ℕ → Note → Option Extent
span_in epoch (Begin slot key path named base changed) = None
span_in epoch (Announce slot named) = None
span_in epoch (Settle slot named span cause) = if named.0 == epoch then Some span else None
span_in epoch (Rename slot scan path) = None
span_in epoch (Seen slot changed) = None
span_in epoch (Forget slot named end) = None

-- the path that a scan found
pub record Naming : Type 0 where
  pub scan : ℕ
  pub path : List ℕ

abbrev pub naming_of : Note → Option Naming
naming_of (Begin slot key path epoch base changed) = None
naming_of (Announce slot epoch) = None
naming_of (Settle slot epoch span cause) = None
naming_of (Rename slot scan path) = Some (record { scan = scan; path = path })
naming_of (Seen slot changed) = None
naming_of (Forget slot epoch end) = None

-- the note is a Forget of an epoch and an end that are not above these two, the epochs compared first
abbrev pub forgets : ℕ → ℕ → Note → Bool
forgets epoch offset (Begin slot key path named base changed) = false
forgets epoch offset (Announce slot named) = false
forgets epoch offset (Settle slot named span cause) = false
forgets epoch offset (Rename slot scan path) = false
forgets epoch offset (Seen slot changed) = false
forgets epoch offset (Forget slot named end) = nat_lt named.0 epoch || ((named.0 == epoch) && nat_le end offset)

-- ---- what the notes of one slot say together

abbrev pub notes_of : ℕ → List Note → List Note
notes_of slot notes = filter (λ note. slot_of note == slot) notes

-- the first Begin; if notes are orderly there is no other
abbrev pub first_start : List Start → Option Start
first_start [] = None
first_start (start ∷ starts) = Some start

abbrev pub start_over : List Note → Option Start
start_over notes = first_start (filter_map start_of notes)

abbrev pub greatest_epoch : List Note → ℕ
greatest_epoch notes = fold max 0 (filter_map epoch_of notes)

abbrev pub greatest_moment : List Note → ℕ
greatest_moment notes = fold max 0 (filter_map moment_of notes)

abbrev pub base_in : Start → ℕ → ℕ
base_in start epoch = if epoch == start.epoch then start.base else 0

abbrev pub spans_in : ℕ → List Note → List Extent
spans_in epoch notes = filter_map (span_in epoch) notes

abbrev pub offset_over : Start → List Note → ℕ
offset_over start notes = covered_end (spans_in (greatest_epoch notes) notes) (base_in start (greatest_epoch notes))

-- the naming of the greatest scan number
abbrev pub newer : Option Naming → Naming → Option Naming
newer None naming = Some naming
newer (Some other) naming = if nat_lt other.scan naming.scan then Some naming else Some other

abbrev pub path_over : Start → List Note → List ℕ
path_over start notes = unwrap_or (option_map (λ naming. naming.path) (fold newer None (filter_map naming_of notes))) start.path

abbrev pub is_gone : Start → List Note → Bool
is_gone start notes = list_any (forgets (greatest_epoch notes) (offset_over start notes)) notes

-- the row that is there if nothing makes it go
abbrev pub standing_row : List Note → Start → Row
standing_row notes start = record {
  key = start.key;
  path = path_over start notes;
  epoch = record { 0 = greatest_epoch notes };
  offset = offset_over start notes;
  changed = record { 0 = greatest_moment notes };
}

abbrev pub row_of : List Note → Start → Option Row
row_of notes start = if is_gone start notes then None else Some (standing_row notes start)

-- ---- among all notes

-- the row of a slot: none if it has no Begin or its row is gone
abbrev pub row_over : ℕ → List Note → Option Row
row_over slot notes = option_and_then (row_of (notes_of slot notes)) (start_over (notes_of slot notes))

-- how far the slot's file is done: its row's epoch and offset
abbrev pub place_over : ℕ → List Note → Option (Epoch × ℕ)
place_over slot notes = option_map (λ row. (row.epoch, row.offset)) (row_over slot notes)
