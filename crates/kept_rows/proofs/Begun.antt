-- If nothing is forgotten, the key of a slot that was begun has a row: the one that is over the slot's notes.
use Rattle.std.proofs.Common.{◌≡◌, ℕ, Bool, true, false, if◌then◌else◌, List, [], ◌==◌, ◌∷◌, Option, Some, None, refl, ap, ◌∙◌}
use Rattle.std.specs.List.{AllByRecursion, filter, list_any}
use Rattle.std.specs.Option.{is_some, option_and_then}
use Rattle.ship_core.specs.RowOver.{Start, forgets, greatest_epoch, notes_of, offset_over, row_of, row_over, slot_of, standing_row, start_over}
use Rattle.ship_core.specs.Rows.{find}
use Rattle.ship_core.specs.RowsOver.{AreRowsOver, row_among, row_for, row_of_greatest, slots_for}
use Rattle.wire_base.specs.declared.note.Note.{Note}
use Rattle.wire_base.specs.declared.note.Note.TheVariants.{Begin, Announce, Settle, Rename, Seen, Forget}
use Rattle.wire_base.specs.declared.row.Row.{Row}

abbrev pub IsNoForget : Note → Type 0
IsNoForget (Begin slot key path epoch base changed) = Unit {0}
IsNoForget (Announce slot epoch) = Unit {0}
IsNoForget (Settle slot epoch span cause) = Unit {0}
IsNoForget (Rename slot scan path) = Unit {0}
IsNoForget (Seen slot changed) = Unit {0}
IsNoForget (Forget slot epoch end) = ⊥

abbrev pub ForgetNone : List Note → Type 0
ForgetNone notes = AllByRecursion IsNoForget notes

none_forgets : (epoch offset : ℕ) (notes : List Note) → ForgetNone notes → list_any (forgets epoch offset) notes ≡ false
none_forgets epoch offset [] all = refl
none_forgets epoch offset (Begin slot key path named base changed ∷ notes) all = none_forgets epoch offset notes all.1
none_forgets epoch offset (Announce slot named ∷ notes) all = none_forgets epoch offset notes all.1
none_forgets epoch offset (Settle slot named span cause ∷ notes) all = none_forgets epoch offset notes all.1
none_forgets epoch offset (Rename slot scan path ∷ notes) all = none_forgets epoch offset notes all.1
none_forgets epoch offset (Seen slot changed ∷ notes) all = none_forgets epoch offset notes all.1
none_forgets epoch offset (Forget slot named end ∷ notes) all = absurd all.0

all_passed : (p : Note → Bool) (notes : List Note) → ForgetNone notes → ForgetNone (filter p notes)
all_passed p [] all = tt
all_passed p (note ∷ notes) all = by_case (p note) (all_passed p notes all.1)
  where
    by_case : (b : Bool) → ForgetNone (filter p notes) → ForgetNone (if b then note ∷ filter p notes else filter p notes)
    by_case true later = (all.0, later)
    by_case false later = later

-- the row of the slot is there
pub slot_stands : (slot : ℕ) (notes : List Note) (start : Start) → ForgetNone notes → start_over (notes_of slot notes) ≡ Some start →
    row_over slot notes ≡ Some (standing_row (notes_of slot notes) start)
slot_stands slot notes start none begun =
    let own = notes_of slot notes in
    ap (λ (o : Option Start). option_and_then (row_of own) o) begun
    ∙ ap (λ (b : Bool). if b then None else Some (standing_row own start))
    (none_forgets (greatest_epoch own) (offset_over start own) own (all_passed (λ note. slot_of note == slot) notes none))

-- the row of the only slot of a key is the key's
pub row_of_one_slot : (opening : List Row) (notes : List Note) (key : List ℕ) (slot : ℕ) (row : Row) → slots_for key notes ≡ slot ∷ [] → row_over slot notes ≡ Some row →
    row_for opening notes key ≡ Some row
row_of_one_slot opening notes key slot row one is =
    ap (row_among opening notes key) one
    ∙ ap (λ (b : Bool). row_of_greatest notes (if b then slot ∷ [] else [])) (ap (λ (o : Option Row). is_some o) is) ∙ is

pub begun_key_has_its_row : (opening : List Row) (notes : List Note) (rows : List Row) (key : List ℕ) (slot : ℕ) (start : Start) → AreRowsOver opening notes rows → ForgetNone notes →
    slots_for key notes ≡ slot ∷ [] → start_over (notes_of slot notes) ≡ Some start → find key rows ≡ Some (standing_row (notes_of slot notes) start)
begun_key_has_its_row opening notes rows key slot start over none one begun =
    over.each key ∙ row_of_one_slot opening notes key slot (standing_row (notes_of slot notes) start) one (slot_stands slot notes start none begun)
