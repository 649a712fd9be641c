-- The rows of the registry over opening rows and the notes since then (this project's profile): for each key that a Begin
-- names the row of its greatest slot that is not gone, and for each other key the opening row.
use Rattle.std.specs.Prelude.{◌≡◌, ℕ, List, [], ◌∷◌, max, fold, filter, Option, Some, None, is_some, if◌then◌else◌}
use Rattle.std.specs.List.{filter_map}
use Rattle.std.specs.Ordering.{is_eq}
use Rattle.wire_base.specs.declared.row.Row.{Row}
use Rattle.wire_base.specs.declared.note.Note.{Note}
use Rattle.wire_base.specs.declared.note.Note.TheVariants.{Begin, Announce, Settle, Rename, Seen, Forget}
use Rattle.wire_base.specs.KeyOrder.{compare}
use Rattle.ship_core.specs.Rows.{IsInOrder, find}
use Rattle.ship_core.specs.RowOver.{row_over}

-- the slot that a Begin gives to the key
abbrev pub slot_for : List ℕ → Note → Option ℕ
slot_for key (Begin slot named path epoch base changed) = if is_eq (compare key named) then Some slot.0 else None
slot_for key (Announce slot epoch) = None
slot_for key (Settle slot epoch span cause) = None
slot_for key (Rename slot scan path) = None
slot_for key (Seen slot changed) = None
slot_for key (Forget slot epoch end) = None

abbrev pub slots_for : List ℕ → List Note → List ℕ
slots_for key notes = filter_map (slot_for key) notes

-- the row of the greatest of these slots
abbrev pub row_of_greatest : List Note → List ℕ → Option Row
row_of_greatest notes [] = None
row_of_greatest notes (slot ∷ slots) = row_over (fold max slot slots) notes

-- the row of a key to which a Begin gave these slots
abbrev pub row_among : List Row → List Note → List ℕ → List ℕ → Option Row
row_among opening notes key [] = find key opening
row_among opening notes key (slot ∷ slots) = row_of_greatest notes (filter (λ given. is_some (row_over given notes)) (slot ∷ slots))

abbrev pub row_for : List Row → List Note → List ℕ → Option Row
row_for opening notes key = row_among opening notes key (slots_for key notes)

-- these are the rows over the opening rows and the notes
pub record AreRowsOver (opening : List Row) (notes : List Note) (rows : List Row) : Type 0 where
  pub in_order : IsInOrder rows
  pub each : (key : List ℕ) → find key rows ≡ row_for opening notes key
