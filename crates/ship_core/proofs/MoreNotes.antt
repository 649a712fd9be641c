-- More notes: what a slot's row was, and what it is then.
use Rattle.std.proofs.Common.{◌≡◌, ◌⊎◌, inl, inr, ℕ, ◌≤◌, ◌<◌, Bool, true, false, List, [], ◌∷◌, ◌++◌, max, Option, Some, None, unwrap_or, if◌then◌else◌, ◌&&◌, ◌||◌, ◌==◌, nat_lt, nat_le, refl, sym, ap, ◌∙◌, subst, arith}
use Rattle.std.specs.List.{filter_map, fold, list_any}
use Rattle.std.specs.Option.{option_map, option_and_then, IsSome}
use Rattle.std.proofs.Math.Bool.{or-false}
use Rattle.std.proofs.lemmas.Bool.{cases_order, cases_eq, ne_eqb, and_parts, and_from, or_cases, or_left, or_right, eqb-true, eq-eqb, ltb-true, lt-ltb, leb-true, le-leb}
use Rattle.std.proofs.lemmas.List.{append-nil}
use Rattle.std.proofs.lemmas.List.Elements.{filter-append, filter_map-append}
use Rattle.std.proofs.lemmas.List.Folds.{list_any-append}
use Rattle.wire_base.specs.Extent.{Extent}
use Rattle.wire_base.specs.declared.numbers.Slot.{Slot}
use Rattle.wire_base.specs.declared.numbers.Epoch.{Epoch}
use Rattle.wire_base.specs.declared.row.Row.{Row}
use Rattle.wire_base.specs.declared.note.Cause.{Cause}
use Rattle.wire_base.specs.declared.note.Note.{Note}
use Rattle.wire_base.specs.declared.note.Note.TheVariants.{Begin, Announce, Settle, Rename, Seen, Forget}
use Rattle.ship_core.specs.CoveredEnd.{covered_end}
use Rattle.ship_core.specs.Orderly.{IsBegun}
use Rattle.ship_core.specs.RowOver.{Start, Naming, naming_of, newer, slot_of, epoch_of, moment_of, start_of, span_in, forgets, notes_of, first_start, start_over, greatest_epoch, greatest_moment, base_in, spans_in, offset_over, path_over, is_gone, standing_row, row_of, row_over}
use Rattle.ship_core.specs.Forward.{RowGoesOn}
use Rattle.ship_core.proofs.Prefixes.{no_nearer}

pub notes_of-append : (slot : ℕ) (notes more : List Note) → notes_of slot (notes ++ more) ≡ notes_of slot notes ++ notes_of slot more
notes_of-append slot notes more = filter-append (λ note. slot_of note == slot) notes more

-- ---- the greatest epoch, and the greatest moment

pub fold_max-append : (least : ℕ) (xs ys : List ℕ) → fold max least (xs ++ ys) ≡ fold max (fold max least xs) ys
fold_max-append least [] ys = refl
fold_max-append least (x ∷ xs) ys = fold_max-append (max least x) xs ys

pub fold_max_least : (least : ℕ) (xs : List ℕ) → least ≤ fold max least xs
fold_max_least least [] = omega arith
fold_max_least least (x ∷ xs) = let h = fold_max_least (max least x) xs in omega (arith, h)

greatest-append : (h : Note → Option ℕ) (notes more : List Note) → fold max 0 (filter_map h (notes ++ more)) ≡ fold max (fold max 0 (filter_map h notes)) (filter_map h more)
greatest-append h notes more = ap (fold max 0) (filter_map-append h notes more) ∙ fold_max-append 0 (filter_map h notes) (filter_map h more)

greatest_rises : (h : Note → Option ℕ) (notes more : List Note) → fold max 0 (filter_map h notes) ≤ fold max 0 (filter_map h (notes ++ more))
greatest_rises h notes more = rw (greatest-append h notes more) (fold_max_least (fold max 0 (filter_map h notes)) (filter_map h more))

-- ---- the offset

offset_rises : (start : Start) (notes more : List Note) → greatest_epoch (notes ++ more) ≡ greatest_epoch notes → offset_over start notes ≤ offset_over start (notes ++ more)
offset_rises start notes more same =
    rw (same, filter_map-append (span_in (greatest_epoch notes)) notes more)
    (no_nearer (spans_in (greatest_epoch notes) notes) (spans_in (greatest_epoch notes) more) (base_in start (greatest_epoch notes)))

-- the later epoch and offset are not below the earlier ones
record PlaceGoesOn (epoch offset later_epoch later_offset : ℕ) : Type 0 where
  pub epoch_kept : epoch ≤ later_epoch
  pub offset_kept : epoch ≡ later_epoch → offset ≤ later_offset

place_rises : (start : Start) (notes more : List Note) → PlaceGoesOn (greatest_epoch notes) (offset_over start notes) (greatest_epoch (notes ++ more)) (offset_over start (notes ++ more))
place_rises start notes more = record {
  epoch_kept = greatest_rises epoch_of notes more;
  offset_kept = λ same. offset_rises start notes more (sym same);
}

-- ---- a row that went stays gone

forgets_still : (note : Note) (epoch offset later_epoch later_offset : ℕ) → PlaceGoesOn epoch offset later_epoch later_offset → forgets epoch offset note ≡ true → forgets later_epoch later_offset note ≡ true
forgets_still (Begin slot key path named base changed) epoch offset later_epoch later_offset on e = e
forgets_still (Announce slot named) epoch offset later_epoch later_offset on e = e
forgets_still (Settle slot named span cause) epoch offset later_epoch later_offset on e = e
forgets_still (Rename slot scan path) epoch offset later_epoch later_offset on e = e
forgets_still (Seen slot changed) epoch offset later_epoch later_offset on e = e
forgets_still (Forget slot named end) epoch offset later_epoch later_offset on e =
    by_case (or_cases (nat_lt named.0 epoch) ((named.0 == epoch) && nat_le end offset) e)
  where
    above : named.0 < later_epoch → (nat_lt named.0 later_epoch || ((named.0 == later_epoch) && nat_le end later_offset)) ≡ true
    above lt = or_left (nat_lt named.0 later_epoch) ((named.0 == later_epoch) && nat_le end later_offset) (lt-ltb named.0 later_epoch lt)

    within : named.0 ≡ later_epoch → end ≤ later_offset → (nat_lt named.0 later_epoch || ((named.0 == later_epoch) && nat_le end later_offset)) ≡ true
    within same le = or_right (nat_lt named.0 later_epoch) ((named.0 == later_epoch) && nat_le end later_offset) (and_from (named.0 == later_epoch) (nat_le end later_offset) (eq-eqb named.0 later_epoch same) (le-leb end later_offset le))

    same_epoch : named.0 ≡ epoch → end ≤ offset → (epoch ≡ later_epoch) ⊎ (epoch < later_epoch) → (nat_lt named.0 later_epoch || ((named.0 == later_epoch) && nat_le end later_offset)) ≡ true
    same_epoch is le (inl same) = within (is ∙ same) (let further = on.offset_kept same in omega (arith, further))
    same_epoch is le (inr rose) = above (omega arith)

    rose : (epoch ≡ later_epoch) ⊎ (epoch < later_epoch)
    rose = elim (cases_order epoch later_epoch) [
      | inl same ↦ inl same
      | inr (inl below) ↦ inr below
      | inr (inr above) ↦ absurd (omega (arith, on.epoch_kept))
    ]

    by_case : (nat_lt named.0 epoch ≡ true) ⊎ (((named.0 == epoch) && nat_le end offset) ≡ true) → (nat_lt named.0 later_epoch || ((named.0 == later_epoch) && nat_le end later_offset)) ≡ true
    by_case (inl below) = above (let lt = ltb-true named.0 epoch below in omega (arith, lt, on.epoch_kept))
    by_case (inr both) =
        let parts = and_parts (named.0 == epoch) (nat_le end offset) both in
        same_epoch (eqb-true named.0 epoch parts.0) (leb-true end offset parts.1) rose

list_any_weaker : (p q : Note → Bool) → ((note : Note) → p note ≡ true → q note ≡ true) → (notes : List Note) → list_any p notes ≡ true → list_any q notes ≡ true
list_any_weaker p q weaker [] e = e
list_any_weaker p q weaker (note ∷ notes) e = by_case (or_cases (p note) (list_any p notes) e) (list_any_weaker p q weaker notes)
  where
    by_case : (p note ≡ true) ⊎ (list_any p notes ≡ true) → (list_any p notes ≡ true → list_any q notes ≡ true) → (q note || list_any q notes) ≡ true
    by_case (inl here) h = or_left (q note) (list_any q notes) (weaker note here)
    by_case (inr later) h = or_right (q note) (list_any q notes) (h later)

pub gone_still : (start : Start) (notes more : List Note) → is_gone start notes ≡ true → is_gone start (notes ++ more) ≡ true
gone_still start notes more gone =
    list_any-append (forgets (greatest_epoch (notes ++ more)) (offset_over start (notes ++ more))) notes more
    ∙ or_left _ _ (list_any_weaker (forgets (greatest_epoch notes) (offset_over start notes)) (forgets (greatest_epoch (notes ++ more)) (offset_over start (notes ++ more))) (λ note. forgets_still note (greatest_epoch notes) (offset_over start notes) (greatest_epoch (notes ++ more)) (offset_over start (notes ++ more)) (place_rises start notes more)) notes gone)

-- ---- the first Begin stays the first

pub start_still : (notes more : List Note) (start : Start) → start_over notes ≡ Some start → start_over (notes ++ more) ≡ Some start
start_still notes more start e = ap first_start (filter_map-append start_of notes more) ∙ first_still (filter_map start_of notes) (filter_map start_of more) e
  where
    first_still : (starts others : List Start) → first_start starts ≡ Some start → first_start (starts ++ others) ≡ Some start
    first_still [] others e = absurd (let q : None ≡ Some start = e in cc)
    first_still (first ∷ starts) others e = e

-- ---- the row

of_start : (start : Start) (notes more : List Note) → RowGoesOn (row_of notes start) (row_of (notes ++ more) start)
of_start start notes more = by_case (is_gone start notes) (is_gone start (notes ++ more)) (gone_still start notes more)
  where
    by_case : (b d : Bool) → (b ≡ true → d ≡ true) → RowGoesOn (if b then None else Some (standing_row notes start)) (if d then None else Some (standing_row (notes ++ more) start))
    by_case true d h = rw (h refl) refl
    by_case false true h = tt
    by_case false false h =
        let place = place_rises start notes more in
        record { epoch_kept = place.epoch_kept; offset_kept = place.offset_kept; moment_kept = greatest_rises moment_of notes more }

pub row_goes_on : (slot : ℕ) (notes more : List Note) → IsBegun slot notes → RowGoesOn (row_over slot notes) (row_over slot (notes ++ more))
row_goes_on slot notes more begun = rw (notes_of-append slot notes more) (by_start (start_over (notes_of slot notes)) refl begun)
  where
    by_start : (o : Option Start) → start_over (notes_of slot notes) ≡ o → IsSome o → RowGoesOn (option_and_then (row_of (notes_of slot notes)) o) (option_and_then (row_of (notes_of slot notes ++ notes_of slot more)) (start_over (notes_of slot notes ++ notes_of slot more)))
    by_start None e some = absurd (let q : false ≡ true = some in cc)
    by_start (Some start) e some = rw (start_still (notes_of slot notes) (notes_of slot more) start e) (of_start start (notes_of slot notes) (notes_of slot more))

-- ---- notes of other slots and of older epochs

pub other_slot : (slot : ℕ) (notes : List Note) (note : Note) → (slot_of note == slot) ≡ false → notes_of slot (notes ++ note ∷ []) ≡ notes_of slot notes
other_slot slot notes note other = notes_of-append slot notes (note ∷ []) ∙ ap (λ (l : List Note). notes_of slot notes ++ l) (rw other refl) ∙ append-nil (notes_of slot notes)

pub this_slot : (slot : ℕ) (notes : List Note) (note : Note) → (slot_of note == slot) ≡ true → notes_of slot (notes ++ note ∷ []) ≡ notes_of slot notes ++ note ∷ []
this_slot slot notes note same = notes_of-append slot notes (note ∷ []) ∙ ap (λ (l : List Note). notes_of slot notes ++ l) (rw same refl)

-- what a row is made of
shown : Start → Bool → List ℕ → ℕ → ℕ → ℕ → Option Row
shown start gone path epoch offset changed =
    if gone then None else Some (record { key = start.key; path = path; epoch = record { 0 = epoch }; offset = offset; changed = record { 0 = changed } })

pub row_same : (start : Start) (first second : List Note) → greatest_epoch first ≡ greatest_epoch second → greatest_moment first ≡ greatest_moment second → offset_over start first ≡ offset_over start second → path_over start first ≡ path_over start second → is_gone start first ≡ is_gone start second → row_of first start ≡ row_of second start
unfolding shown
row_same start first second epoch moment offset path gone = λ k. shown start (gone k) (path k) (epoch k) (offset k) (moment k)

-- a settlement of an older epoch changes nothing of its slot's row
module _ (slot : Slot) (epoch : Epoch) (span : Extent) (cause : Cause) (notes : List Note) (older : epoch.0 < greatest_epoch notes) where
  same_epoch : greatest_epoch (notes ++ Settle slot epoch span cause ∷ []) ≡ greatest_epoch notes
  same_epoch = greatest-append epoch_of notes (Settle slot epoch span cause ∷ []) ∙ omega arith

  same_moment : greatest_moment (notes ++ Settle slot epoch span cause ∷ []) ≡ greatest_moment notes
  same_moment = greatest-append moment_of notes (Settle slot epoch span cause ∷ [])

  same_spans_in : spans_in (greatest_epoch notes) (notes ++ Settle slot epoch span cause ∷ []) ≡ spans_in (greatest_epoch notes) notes
  same_spans_in =
      filter_map-append (span_in (greatest_epoch notes)) notes (Settle slot epoch span cause ∷ [])
      ∙ ap (λ (l : List Extent). spans_in (greatest_epoch notes) notes ++ l) (rw (ne_eqb epoch.0 (greatest_epoch notes) (λ same. omega (arith, same))) refl)
      ∙ append-nil (spans_in (greatest_epoch notes) notes)

  same_offset : (start : Start) → offset_over start (notes ++ Settle slot epoch span cause ∷ []) ≡ offset_over start notes
  same_offset start =
      ap (λ (e : ℕ). covered_end (spans_in e (notes ++ Settle slot epoch span cause ∷ [])) (base_in start e)) same_epoch
      ∙ ap (λ (l : List Extent). covered_end l (base_in start (greatest_epoch notes))) same_spans_in

  same_path : (start : Start) → path_over start (notes ++ Settle slot epoch span cause ∷ []) ≡ path_over start notes
  same_path start =
      ap (λ (l : List Naming). unwrap_or (option_map (λ (naming : Naming). naming.path) (fold newer None l)) start.path) (filter_map-append naming_of notes (Settle slot epoch span cause ∷ []) ∙ append-nil (filter_map naming_of notes))

  same_gone : (start : Start) → is_gone start (notes ++ Settle slot epoch span cause ∷ []) ≡ is_gone start notes
  same_gone start =
      (λ k. list_any (forgets (same_epoch k) (same_offset start k)) (notes ++ Settle slot epoch span cause ∷ []))
      ∙ list_any-append (forgets (greatest_epoch notes) (offset_over start notes)) notes (Settle slot epoch span cause ∷ [])
      ∙ or-false (is_gone start notes)

  pub older_row : (start : Start) → row_of (notes ++ Settle slot epoch span cause ∷ []) start ≡ row_of notes start
  older_row start = row_same start (notes ++ Settle slot epoch span cause ∷ []) notes same_epoch same_moment (same_offset start) (same_path start) (same_gone start)

pub older_changes_nothing : (slot : Slot) (epoch : Epoch) (span : Extent) (cause : Cause) (notes : List Note) → epoch.0 < greatest_epoch (notes_of slot.0 notes) → (of : ℕ) → row_over of (notes ++ Settle slot epoch span cause ∷ []) ≡ row_over of notes
older_changes_nothing slot epoch span cause notes older of = by_slot (cases_eq slot.0 of)
  where
    by_row : (own : List Note) → epoch.0 < greatest_epoch own → option_and_then (row_of (own ++ Settle slot epoch span cause ∷ [])) (start_over (own ++ Settle slot epoch span cause ∷ [])) ≡ option_and_then (row_of own) (start_over own)
    by_row own older =
        let start = ap first_start (filter_map-append start_of own (Settle slot epoch span cause ∷ []) ∙ append-nil (filter_map start_of own)) in
        λ k. option_and_then (λ (s : Start). older_row slot epoch span cause own older s k) (start k)

    by_slot : (slot.0 ≡ of) ⊎ (slot.0 ≡ of → ⊥) → row_over of (notes ++ Settle slot epoch span cause ∷ []) ≡ row_over of notes
    by_slot (inl same) = rw (this_slot of notes (Settle slot epoch span cause) (eq-eqb slot.0 of same)) (by_row (notes_of of notes) (subst (λ (z : ℕ). epoch.0 < greatest_epoch (notes_of z notes)) same older))
    by_slot (inr other) = ap (λ (l : List Note). option_and_then (row_of l) (start_over l)) (other_slot of notes (Settle slot epoch span cause) (ne_eqb slot.0 of other))
