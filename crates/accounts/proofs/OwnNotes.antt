-- What notes say of one slot and of one key: a row that none of the slot's own notes forgets is there, and a Begin for the key is of its slot.
use Rattle.std.proofs.Common.{◌≡◌, ℕ, Bool, true, false, List, [], ◌∷◌, None, Some, ◌==◌, if◌then◌else◌, refl, sym, ap, ◌∙◌}
use Rattle.std.specs.Ordering.{is_eq}
use Rattle.std.specs.declared.cmp.Ordering.{Ordering}
use Rattle.std.specs.declared.cmp.Ordering.TheVariants.{Equal, Greater, Less}
use Rattle.kept_rows.proofs.Begun.{ForgetNone, slot_stands}
use Rattle.ship_core.specs.RowOver.{Start, notes_of, row_of, row_over, slot_of, standing_row, start_over}
use Rattle.ship_core.specs.RowsOver.{slot_for}
use Rattle.std.specs.Option.{option_and_then}
use Rattle.wire_base.specs.KeyOrder.{compare}
use Rattle.wire_base.specs.declared.note.Note.{Note}
use Rattle.wire_base.specs.declared.note.Note.TheVariants.{Announce, Begin, Forget, Rename, Seen, Settle}

-- ---- of one slot

own_again : (slot : ℕ) (notes : List Note) → notes_of slot (notes_of slot notes) ≡ notes_of slot notes
own_again slot [] = refl
own_again slot (note ∷ notes) = by_case (slot_of note == slot) refl (own_again slot notes)
  where
    by_case : (b : Bool) → (slot_of note == slot) ≡ b → notes_of slot (notes_of slot notes) ≡ notes_of slot notes →
        notes_of slot (if b then note ∷ notes_of slot notes else notes_of slot notes) ≡ (if b then note ∷ notes_of slot notes else notes_of slot notes)
    by_case true is later = ap (λ (b : Bool). if b then note ∷ notes_of slot (notes_of slot notes) else notes_of slot (notes_of slot notes)) is ∙ ap (λ (l : List Note). note ∷ l) later
    by_case false is later = later

pub own_row_stands : (slot : ℕ) (notes : List Note) (start : Start) → ForgetNone (notes_of slot notes) → start_over (notes_of slot notes) ≡ Some start →
    row_over slot notes ≡ Some (standing_row (notes_of slot notes) start)
own_row_stands slot notes start none begun =
    let own = notes_of slot notes in
    ap (λ (l : List Note). option_and_then (row_of l) (start_over l)) (sym (own_again slot notes))
    ∙ slot_stands slot own start none (ap start_over (own_again slot notes) ∙ begun)
    ∙ ap (λ (l : List Note). Some (standing_row l start)) (own_again slot notes)

-- ---- of one key

-- the note is of the slot
pub slot_begun : (key : List ℕ) (slot : ℕ) (note : Note) → slot_for key note ≡ Some slot → slot_of note ≡ slot
slot_begun key slot (Begin given named path epoch base changed) is = by_order (compare key named) is
  where
    by_order : (o : Ordering) → (if is_eq o then Some given.0 else None) ≡ Some slot → given.0 ≡ slot
    by_order Equal begun = cc
    by_order Less none = absurd (let q : None ≡ Some slot = none in cc)
    by_order Greater none = absurd (let q : None ≡ Some slot = none in cc)
slot_begun key slot (Announce given epoch) is = absurd (let q : None ≡ Some slot = is in cc)
slot_begun key slot (Settle given epoch span cause) is = absurd (let q : None ≡ Some slot = is in cc)
slot_begun key slot (Rename given scan path) is = absurd (let q : None ≡ Some slot = is in cc)
slot_begun key slot (Seen given changed) is = absurd (let q : None ≡ Some slot = is in cc)
slot_begun key slot (Forget given epoch end) is = absurd (let q : None ≡ Some slot = is in cc)
