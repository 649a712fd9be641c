-- At most 65,536 keys (this project's profile): the rows that are stored, and the Begins that were given and whose rows are not
-- gone, have no more keys together.
use Rattle.std.specs.Prelude.{◌≡◌, ℕ, ◌≤◌, All, Contains, List, [], ◌∷◌, ◌++◌, length, Some}
use Rattle.ack_tracker.specs.Tracked.{Tracked}
use Rattle.ship_core.specs.RowOver.{Start, notes_of, start_over}
use Rattle.wire_base.specs.declared.note.Note.{Note}
use Rattle.wire_base.specs.declared.note.Note.TheVariants.{Begin, Announce, Settle, Rename, Seen, Forget}
use Rattle.wire_base.specs.declared.row.Row.{Row}

-- each of their keys is one of these, which are not too many
pub record AreFewKeys (rows : List Row) (notes : List Note) (gone : List ℕ) : Type 0 where
  pub keys : List (List ℕ)
  pub few : length keys ≤ 65_536
  pub of_rows : All (λ row. Contains keys row.key) rows
  pub of_begins : (slot : ℕ) (start : Start) → start_over (notes_of slot notes) ≡ Some start → ¬ (Contains gone slot) → Contains keys start.key

-- with this Begin they are still few
abbrev pub HasRoomFor : List Row → Tracked → Note → Type 0
HasRoomFor rows tracked (Begin slot key path epoch base changed) =
    AreFewKeys rows (tracked.notes ++ Begin slot key path epoch base changed ∷ []) tracked.gone
HasRoomFor rows tracked (Announce slot epoch) = Unit {0}
HasRoomFor rows tracked (Settle slot epoch span cause) = Unit {0}
HasRoomFor rows tracked (Rename slot scan path) = Unit {0}
HasRoomFor rows tracked (Seen slot changed) = Unit {0}
HasRoomFor rows tracked (Forget slot epoch end) = Unit {0}
