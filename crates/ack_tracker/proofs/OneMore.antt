-- What one note more at the end says.
use Rattle.std.proofs.Common.{◌≡◌, ◌≢◌, ℕ, ◌<◌, ◌≤◌, Bool, true, false, List, [], ◌∷◌, ◌++◌, max, Option, Some, None, if◌then◌else◌, ◌==◌, ◌||◌, refl, ap, ◌∙◌, arith, append_assoc}
use Rattle.std.specs.List.{filter_map, fold, list_any, cons_option}
use Rattle.std.specs.Option.{option_to_list}
use Rattle.std.proofs.Math.Bool.{or-false}
use Rattle.std.proofs.lemmas.Bool.{eqb-true, eq-eqb, ne_eqb}
use Rattle.std.proofs.lemmas.List.{append-nil}
use Rattle.std.proofs.lemmas.List.Elements.{filter-append, filter_map-append}
use Rattle.std.proofs.lemmas.List.Folds.{list_any-append}
use Rattle.wire_base.specs.Extent.{Extent}
use Rattle.wire_base.specs.declared.note.Note.{Note}
use Rattle.wire_base.specs.declared.note.Note.TheVariants.{Begin, Announce, Settle, Rename, Seen, Forget}
use Rattle.ship_core.specs.Orderly.{AreOrderly, MayFollow}
use Rattle.ship_core.specs.RowOver.{Start, slot_of, epoch_of, start_of, span_in, notes_of, first_start, start_over, spans_in}

-- ---- folds

module _ {Y Z : Type 0} (f : Z → Y → Z) where
  abbrev pub with_told : Z → Option Y → Z
  with_told z None = z
  with_told z (Some y) = f z y

  pub told_more : (h : Note → Option Y) (z : Z) (notes : List Note) (note : Note) → fold f z (filter_map h (notes ++ note ∷ [])) ≡ with_told (fold f z (filter_map h notes)) (h note)
  told_more h z [] note = by_case (h note)
    where
      by_case : (o : Option Y) → fold f z (cons_option o []) ≡ with_told z o
      by_case None = refl
      by_case (Some y) = refl
  told_more h z (first ∷ notes) note = by_case (h first) (λ (next : Z). told_more h next notes note)
    where
      by_case : (o : Option Y) → ((next : Z) → fold f next (filter_map h (notes ++ note ∷ [])) ≡ with_told (fold f next (filter_map h notes)) (h note)) → fold f z (cons_option o (filter_map h (notes ++ note ∷ []))) ≡ with_told (fold f z (cons_option o (filter_map h notes))) (h note)
      by_case None rest = rest z
      by_case (Some y) rest = rest (f z y)

pub max_rises : (most : ℕ) (o : Option ℕ) → most ≤ with_told max most o
max_rises most None = omega arith
max_rises most (Some n) = omega arith

-- ---- starts and spans

pub start_stays : (notes : List Note) (note : Note) (start : Start) → start_over notes ≡ Some start → start_over (notes ++ note ∷ []) ≡ Some start
start_stays notes note start e = ap first_start (filter_map-append start_of notes (note ∷ [])) ∙ by_first (filter_map start_of notes) e
  where
    by_first : (starts : List Start) → first_start starts ≡ Some start → first_start (starts ++ filter_map start_of (note ∷ [])) ≡ Some start
    by_first [] e = absurd (let q : None ≡ Some start = e in cc)
    by_first (first ∷ starts) e = e

pub start_comes : (notes : List Note) (note : Note) → start_over notes ≡ None → start_over (notes ++ note ∷ []) ≡ start_of note
start_comes notes note e = ap first_start (filter_map-append start_of notes (note ∷ [])) ∙ by_first (filter_map start_of notes) e
  where
    alone : (o : Option Start) → first_start (cons_option o []) ≡ o
    alone None = refl
    alone (Some start) = refl

    by_first : (starts : List Start) → first_start starts ≡ None → first_start (starts ++ filter_map start_of (note ∷ [])) ≡ start_of note
    by_first [] e = alone (start_of note)
    by_first (first ∷ starts) e = absurd (let q : Some first ≡ None = e in cc)

pub spans_more : (epoch : ℕ) (notes : List Note) (note : Note) → spans_in epoch (notes ++ note ∷ []) ≡ spans_in epoch notes ++ option_to_list (span_in epoch note)
spans_more epoch notes note = filter_map-append (span_in epoch) notes (note ∷ []) ∙ ap (λ (l : List Extent). spans_in epoch notes ++ l) (alone (span_in epoch note))
  where
    alone : (o : Option Extent) → cons_option o [] ≡ option_to_list o
    alone None = refl
    alone (Some span) = refl

pub no_span_more : (epoch : ℕ) (notes : List Note) (note : Note) → span_in epoch note ≡ None → spans_in epoch (notes ++ note ∷ []) ≡ spans_in epoch notes
no_span_more epoch notes note none =
    spans_more epoch notes note ∙ ap (λ (o : Option Extent). spans_in epoch notes ++ option_to_list o) none ∙ append-nil (spans_in epoch notes)

pub span_more : (epoch : ℕ) (notes : List Note) (note : Note) (span : Extent) → span_in epoch note ≡ Some span → spans_in epoch (notes ++ note ∷ []) ≡ spans_in epoch notes ++ span ∷ []
span_more epoch notes note span some =
    spans_more epoch notes note ∙ ap (λ (o : Option Extent). spans_in epoch notes ++ option_to_list o) some

most_least : (least : ℕ) (xs : List ℕ) → least ≤ fold max least xs
most_least least [] = omega arith
most_least least (x ∷ xs) = let h = most_least (max least x) xs in omega (arith, h)

-- no span is settled for an epoch above all that are named
pub none_above : (epoch least : ℕ) (notes : List Note) → fold max least (filter_map epoch_of notes) < epoch → spans_in epoch notes ≡ []
none_above epoch least [] lt = refl
none_above epoch least (Begin slot key path named base changed ∷ notes) lt = none_above epoch (max least named.0) notes lt
none_above epoch least (Announce slot named ∷ notes) lt = none_above epoch (max least named.0) notes lt
none_above epoch least (Settle slot named span cause ∷ notes) lt = by_case (named.0 == epoch) refl (none_above epoch (max least named.0) notes lt)
  where
    by_case : (b : Bool) → (named.0 == epoch) ≡ b → spans_in epoch notes ≡ [] → cons_option (if b then Some span else None) (spans_in epoch notes) ≡ []
    by_case true e h = absurd (let same = eqb-true named.0 epoch e in let most = most_least (max least named.0) (filter_map epoch_of notes) in omega (arith, same, most, lt))
    by_case false e h = h
none_above epoch least (Rename slot scan path ∷ notes) lt = none_above epoch least notes lt
none_above epoch least (Seen slot changed ∷ notes) lt = none_above epoch least notes lt
none_above epoch least (Forget slot named end ∷ notes) lt = none_above epoch (max least named.0) notes lt

pub any_more : (p : Note → Bool) (notes : List Note) (note : Note) → list_any p (notes ++ note ∷ []) ≡ (list_any p notes || p note)
any_more p notes note = list_any-append p notes (note ∷ []) ∙ ap (λ (b : Bool). list_any p notes || b) (or-false (p note))

-- ---- a slot's notes

own : (slot : ℕ) (notes : List Note) (note : Note) (b : Bool) → (slot_of note == slot) ≡ b → notes_of slot (notes ++ note ∷ []) ≡ notes_of slot notes ++ (if b then note ∷ [] else [])
own slot notes note b e = filter-append (λ (n : Note). slot_of n == slot) notes (note ∷ []) ∙ ap (λ (c : Bool). notes_of slot notes ++ (if c then note ∷ [] else [])) e

pub own_more : (slot : ℕ) (notes : List Note) (note : Note) → slot_of note ≡ slot → notes_of slot (notes ++ note ∷ []) ≡ notes_of slot notes ++ note ∷ []
own_more slot notes note same = own slot notes note true (eq-eqb (slot_of note) slot same)

pub own_same : (slot : ℕ) (notes : List Note) (note : Note) → slot_of note ≢ slot → notes_of slot (notes ++ note ∷ []) ≡ notes_of slot notes
own_same slot notes note other = own slot notes note false (ne_eqb (slot_of note) slot other) ∙ append-nil (notes_of slot notes)

-- ---- orderly notes

pub front_orderly : (notes : List Note) (note : Note) → AreOrderly (notes ++ note ∷ []) → AreOrderly notes
front_orderly notes note orderly = record { each = λ front next rest e. orderly.each front next (rest ++ note ∷ []) (ap (λ (l : List Note). l ++ note ∷ []) e ∙ append_assoc front (next ∷ rest) (note ∷ [])) }

pub may_follow : (notes : List Note) (note : Note) → AreOrderly (notes ++ note ∷ []) → MayFollow notes note
may_follow notes note orderly = orderly.each notes note [] refl
