-- What plain passes over notes find.
use Rattle.std.proofs.Common.{◌≡◌, ℕ, zero, suc, ◌-◌, ◌<◌, ◌≤◌, Bool, true, false, List, [], ◌∷◌, get_or, max, All, Contains, Option, Some, None, IfSome, unwrap_or, if◌then◌else◌, ◌==◌, ◌&&◌, nat_lt, refl, sym, ap, ◌∙◌, subst, arith}
use Rattle.std.specs.List.{filter, filter_map, cons_option, fold, list_any}
use Rattle.std.specs.List.{find as first_that}
use Rattle.std.specs.Option.{is_some, option_map, option_map_or, option_and_then}
use Rattle.std.proofs.lemmas.Bool.{eq-eqb}
use Rattle.std.proofs.lemmas.List.Elements.{All-contains, Contains-get_or}
use Rattle.wire_base.specs.Extent.{Extent}
use Rattle.wire_base.specs.Ranges.{IsKey, IsNote, IsPath, IsPlace, IsRow}
use Rattle.wire_base.specs.declared.numbers.Slot.{Slot}
use Rattle.wire_base.specs.declared.row.Row.{Row}
use Rattle.wire_base.specs.declared.note.Note.{Note}
use Rattle.wire_base.specs.declared.note.Note.TheVariants.{Begin, Announce, Settle, Rename, Seen, Forget}
use Rattle.ship_core.specs.CoveredEnd.{next_end, end_within, covered_end}
use Rattle.ship_core.specs.Reading.{begins, is_newer, later, place_of}
use Rattle.ship_core.specs.Rows.{find}
use Rattle.ship_core.specs.RowOver.{Start, Naming, slot_of, moment_of, start_of, span_in, naming_of, newer, notes_of, first_start, start_over, forgets, greatest_epoch, greatest_moment, base_in, spans_in, offset_over, path_over, is_gone, standing_row, row_of, row_over}
use Rattle.ship_core.specs.RowsOver.{row_of_greatest, row_among}
use Rattle.wire_base.specs.declared.numbers.TheConstants.{MAX_PLACE, MAX_MOMENT}
use Rattle.ship_core.proofs.Members.{first_there, later_there, there_passed, there_given, greatest_least}
use Rattle.ship_core.proofs.Reordered.{first_member}
use Rattle.ship_core.proofs.Prefixes.{no_further}

-- ---- the span at a place

pub next_found : (spans : List Extent) (place : ℕ) → next_end spans place ≡ option_map (λ (span : Extent). span.end) (first_that (λ (span : Extent). (span.start == place) && nat_lt place span.end) spans)
next_found [] place = refl
next_found (span ∷ spans) place = by_case ((span.start == place) && nat_lt place span.end) (next_found spans place)
  where
    by_case : (b : Bool) → next_end spans place ≡ option_map (λ (s : Extent). s.end) (first_that (λ (s : Extent). (s.start == place) && nat_lt place s.end) spans) → (if b then Some span.end else next_end spans place) ≡ option_map (λ (s : Extent). s.end) (if b then Some span else first_that (λ (s : Extent). (s.start == place) && nat_lt place s.end) spans)
    by_case true h = refl
    by_case false h = h

-- this many spans are left, and the first of them leads on
pub one_further : (spans : List Extent) (left place : ℕ) (span : Extent) → 0 < left → first_that (λ (s : Extent). (s.start == place) && nat_lt place s.end) spans ≡ Some span → end_within spans left place ≡ end_within spans (left - 1) span.end
one_further spans left place span some is = by_left left some
  where
    by_left : (left : ℕ) → 0 < left → end_within spans left place ≡ end_within spans (left - 1) span.end
    by_left zero some = absurd (omega (arith, some))
    by_left (suc left) some = one_step left ∙ ap (λ (n : ℕ). end_within spans n span.end) (less left)
      where
        less : (left : ℕ) → left ≡ suc left - 1
        less left = omega arith

        one_step : (left : ℕ) → end_within spans (suc left) place ≡ end_within spans left span.end
        one_step left = ap (λ (o : Option ℕ). option_map_or (end_within spans left) o place) (next_found spans place ∙ ap (option_map (λ (s : Extent). s.end)) is)

pub no_more_spans : (spans : List Extent) (left place : ℕ) → first_that (λ (s : Extent). (s.start == place) && nat_lt place s.end) spans ≡ None → end_within spans left place ≡ place
no_more_spans spans zero place is = refl
no_more_spans spans (suc left) place is = ap (λ (o : Option ℕ). option_map_or (end_within spans left) o place) (next_found spans place ∙ ap (option_map (λ (s : Extent). s.end)) is)

-- ---- how a slot begins

-- a note that is no Begin starts nothing
other : (slot : ℕ) (b : Bool) (note : Note) (notes : List Note) → start_of note ≡ None → start_over (notes_of slot notes) ≡ option_and_then start_of (first_that (begins slot) notes) → start_over (if b then note ∷ notes_of slot notes else notes_of slot notes) ≡ option_and_then start_of (first_that (begins slot) notes)
other slot true note notes none h = ap (λ (o : Option Start). first_start (cons_option o (filter_map start_of (notes_of slot notes)))) none ∙ h
other slot false note notes none h = h

module _ (slot : ℕ) where
  pub start_found : (notes : List Note) → start_over (notes_of slot notes) ≡ option_and_then start_of (first_that (begins slot) notes)
  start_found [] = refl
  start_found (Begin begun key path epoch base changed ∷ notes) = by_case (begun.0 == slot) (start_found notes)
    where
      by_case : (b : Bool) → start_over (notes_of slot notes) ≡ option_and_then start_of (first_that (begins slot) notes) → start_over (if b then Begin begun key path epoch base changed ∷ notes_of slot notes else notes_of slot notes) ≡ option_and_then start_of (if b then Some (Begin begun key path epoch base changed) else first_that (begins slot) notes)
      by_case true h = refl
      by_case false h = h
  start_found (Announce begun epoch ∷ notes) = other slot (begun.0 == slot) (Announce begun epoch) notes refl (start_found notes)
  start_found (Settle begun epoch span cause ∷ notes) = other slot (begun.0 == slot) (Settle begun epoch span cause) notes refl (start_found notes)
  start_found (Rename begun scan path ∷ notes) = other slot (begun.0 == slot) (Rename begun scan path) notes refl (start_found notes)
  start_found (Seen begun changed ∷ notes) = other slot (begun.0 == slot) (Seen begun changed) notes refl (start_found notes)
  start_found (Forget begun epoch end ∷ notes) = other slot (begun.0 == slot) (Forget begun epoch end) notes refl (start_found notes)

-- what is found is there, and passes
pub found_passes : {X : Type 0} (p : X → Bool) (xs : List X) (x : X) → first_that p xs ≡ Some x → Contains xs x × (p x ≡ true)
found_passes p [] x e = absurd (let q : None ≡ Some x = e in cc)
found_passes {X} p (first ∷ xs) x e = by_case (p first) refl e (found_passes p xs x)
  where
    by_case : (b : Bool) → p first ≡ b → (if b then Some first else first_that p xs) ≡ Some x → (first_that p xs ≡ Some x → Contains xs x × (p x ≡ true)) → Contains (first ∷ xs) x × (p x ≡ true)
    by_case true is e h = let q : Some first ≡ Some x = e in let same : first ≡ x = cc in (subst (λ (z : X). Contains (first ∷ xs) z) same (first_there first xs), ap p (sym same) ∙ is)
    by_case false is e h = let found = h e in (later_there first x xs found.0, found.1)

pub begun_row : (slot : ℕ) (notes : List Note) (start : Start) → start_over (notes_of slot notes) ≡ Some start → row_over slot notes ≡ row_of (notes_of slot notes) start
begun_row slot notes start e = ap (option_and_then (row_of (notes_of slot notes))) e

pub no_start : (slot : ℕ) (notes : List Note) → start_over (notes_of slot notes) ≡ None → row_over slot notes ≡ None
no_start slot notes none = ap (option_and_then (row_of (notes_of slot notes))) none

-- the place of a slot that began so
module _ (slot : ℕ) (notes : List Note) (start : Start) (begun : start_over (notes_of slot notes) ≡ Some start) where
  abbrev own : List Note
  own = notes_of slot notes

  pub place_is : (epoch base offset : ℕ) (gone : Bool) → epoch ≡ greatest_epoch own → base ≡ base_in start epoch → offset ≡ covered_end (spans_in epoch own) base → gone ≡ list_any (forgets epoch offset) own → place_of (row_over slot notes) ≡ (if gone then None else Some (epoch, offset))
  place_is epoch base offset gone epoch_is base_is offset_is gone_is =
      ap place_of (begun_row slot notes start begun) ∙ by_case (is_gone start own) ∙ sym (λ k. if gone_all k then None else Some (epoch_is k, offset_all k))
    where
      offset_all : offset ≡ offset_over start own
      offset_all = offset_is ∙ ap (covered_end (spans_in epoch own)) base_is ∙ ap (λ (e : ℕ). covered_end (spans_in e own) (base_in start e)) epoch_is

      gone_all : gone ≡ is_gone start own
      gone_all = gone_is ∙ (λ k. list_any (forgets (epoch_is k) (offset_all k)) own)

      by_case : (b : Bool) → place_of (if b then None else Some (standing_row own start)) ≡ (if b then None else Some (greatest_epoch own, offset_over start own))
      by_case true = refl
      by_case false = refl

  -- the row of a slot with this place
  pub placed_row : (place : ℕ × ℕ) → Some place ≡ place_of (row_over slot notes) →
      row_over slot notes ≡ Some (record { key = start.key; path = path_over start own; epoch = record { 0 = place.0 }; offset = place.1; changed = record { 0 = greatest_moment own } })
  placed_row place is = begun_row slot notes start begun ∙ by_case (is_gone start own) (is ∙ ap place_of (begun_row slot notes start begun))
    where
      by_case : (b : Bool) → Some place ≡ place_of (if b then None else Some (standing_row own start)) → (if b then None else Some (standing_row own start)) ≡ Some (record { key = start.key; path = path_over start own; epoch = record { 0 = place.0 }; offset = place.1; changed = record { 0 = greatest_moment own } })
      by_case true e = absurd (let q : Some place ≡ None = e in cc)
      by_case false e =
          let q : Some place ≡ Some (greatest_epoch own, offset_over start own) = e in
          let same : place ≡ (greatest_epoch own, offset_over start own) = cc in
          λ k. Some (record { key = start.key; path = path_over start own; epoch = record { 0 = sym (ap (λ (p : ℕ × ℕ). p.0) same) k }; offset = sym (ap (λ (p : ℕ × ℕ). p.1) same) k; changed = record { 0 = greatest_moment own } })

pub no_row : (slot : ℕ) (notes : List Note) → None ≡ place_of (row_over slot notes) → row_over slot notes ≡ None
no_row slot notes e = by_case (row_over slot notes) refl e
  where
    by_case : (o : Option Row) → row_over slot notes ≡ o → None ≡ place_of o → o ≡ None
    by_case None is e = refl
    by_case (Some row) is e = absurd (let q : None ≡ Some (row.epoch.0, row.offset) = e in cc)

pub some_place : (row : Option Row) → is_some (place_of row) ≡ is_some row
some_place None = refl
some_place (Some row) = refl

-- ---- the latest slot

fold_later : (slots : List ℕ) (slot : ℕ) → fold later (Some slot) slots ≡ Some (fold max slot slots)
fold_later [] slot = refl
fold_later (next ∷ slots) slot = fold_later slots (max slot next)

pub latest_row : (opening : List Row) (notes : List Note) (key : List ℕ) (slots : List ℕ) (slot : ℕ) → fold later None (filter (λ (s : ℕ). is_some (row_over s notes)) slots) ≡ Some slot → row_among opening notes key slots ≡ row_over slot notes
latest_row opening notes key [] slot e = absurd (let q : None ≡ Some slot = e in cc)
latest_row opening notes key (first ∷ slots) slot e = by_list (filter (λ (s : ℕ). is_some (row_over s notes)) (first ∷ slots)) e
  where
    by_list : (standing : List ℕ) → fold later None standing ≡ Some slot → row_of_greatest notes standing ≡ row_over slot notes
    by_list [] e = absurd (let q : None ≡ Some slot = e in cc)
    by_list (x ∷ xs) e =
        let q : Some (fold max x xs) ≡ Some slot = sym (fold_later xs x) ∙ e in
        let same : fold max x xs ≡ slot = cc in
        ap (λ (s : ℕ). row_over s notes) same

pub none_stands : (opening : List Row) (notes : List Note) (key : List ℕ) (slots : List ℕ) → fold later None (filter (λ (s : ℕ). is_some (row_over s notes)) slots) ≡ None → list_any (λ (slot : ℕ). true) slots ≡ true → row_among opening notes key slots ≡ None
none_stands opening notes key [] e named = absurd (let q : false ≡ true = named in cc)
none_stands opening notes key (first ∷ slots) e named = by_list (filter (λ (s : ℕ). is_some (row_over s notes)) (first ∷ slots)) e
  where
    by_list : (standing : List ℕ) → fold later None standing ≡ None → row_of_greatest notes standing ≡ None
    by_list [] e = refl
    by_list (x ∷ xs) e = absurd (let q : Some (fold max x xs) ≡ None = sym (fold_later xs x) ∙ e in cc)

pub not_named : (opening : List Row) (notes : List Note) (key : List ℕ) (slots : List ℕ) → list_any (λ (slot : ℕ). true) slots ≡ false → row_among opening notes key slots ≡ find key opening
not_named opening notes key [] e = refl
not_named opening notes key (first ∷ slots) e = absurd (let q : true ≡ false = e in cc)

-- ---- the newest path

abbrev pub naming : Option ℕ → List ℕ → Option Naming
naming None path = None
naming (Some scan) path = Some (record { scan = scan; path = path })

-- what the rest of the notes makes of the newest naming so far
abbrev pub newest_of : ℕ → Option Naming → List Note → Option Naming
newest_of slot newest notes = fold newer newest (filter_map naming_of (notes_of slot notes))

pub newest_renamed : (slot : ℕ) (newest : Option ℕ) (path : List ℕ) (named : Slot) (scan : ℕ) (found : List ℕ) (notes : List Note) → named.0 ≡ slot → is_newer newest scan ≡ true → newest_of slot (naming newest path) (Rename named scan found ∷ notes) ≡ newest_of slot (naming (Some scan) found) notes
newest_renamed slot None path named scan found notes same newer_is = rw (eq-eqb named.0 slot same) refl
newest_renamed slot (Some other) path named scan found notes same newer_is = rw (eq-eqb named.0 slot same, newer_is) refl

pub newest_older : (slot : ℕ) (newest : Option ℕ) (path : List ℕ) (named : Slot) (scan : ℕ) (found : List ℕ) (notes : List Note) → named.0 ≡ slot → is_newer newest scan ≡ false → newest_of slot (naming newest path) (Rename named scan found ∷ notes) ≡ newest_of slot (naming newest path) notes
newest_older slot None path named scan found notes same older = absurd (let q : true ≡ false = older in cc)
newest_older slot (Some other) path named scan found notes same older = rw (eq-eqb named.0 slot same, older) refl

pub newest_other_slot : (slot : ℕ) (newest : Option Naming) (note : Note) (notes : List Note) → (slot_of note == slot) ≡ false → newest_of slot newest (note ∷ notes) ≡ newest_of slot newest notes
newest_other_slot slot newest note notes other = ap (λ (b : Bool). fold newer newest (filter_map naming_of (if b then note ∷ notes_of slot notes else notes_of slot notes))) other

pub newest_no_rename : (slot : ℕ) (newest : Option Naming) (note : Note) (notes : List Note) → naming_of note ≡ None → newest_of slot newest (note ∷ notes) ≡ newest_of slot newest notes
newest_no_rename slot newest note notes none = by_case (slot_of note == slot)
  where
    by_case : (b : Bool) → fold newer newest (filter_map naming_of (if b then note ∷ notes_of slot notes else notes_of slot notes)) ≡ fold newer newest (filter_map naming_of (notes_of slot notes))
    by_case true = ap (λ (o : Option Naming). fold newer newest (cons_option o (filter_map naming_of (notes_of slot notes)))) none
    by_case false = refl

-- ---- within ranges

all_each : {X : Type 0} (P : X → Type 0) (xs : List X) → ((x : X) → Contains xs x → P x) → All P xs
all_each P xs each = λ k d inside. each (get_or xs k d) (Contains-get_or xs k d inside)

start_in_range : (note : Note) (start : Start) → start_of note ≡ Some start → IsNote note → IsKey start.key × IsPath start.path × IsPlace start.base
start_in_range (Begin slot key path epoch base changed) start e is =
    let q : Some (record { key = key; path = path; epoch = epoch.0; base = base }) ≡ Some start = e in
    let same : record { key = key; path = path; epoch = epoch.0; base = base } ≡ start = cc in
    subst (λ (s : Start). IsKey s.key × IsPath s.path × IsPlace s.base) same (is.0, is.1, is.2)
start_in_range (Announce slot epoch) start e is = absurd (let q : None ≡ Some start = e in cc)
start_in_range (Settle slot epoch span cause) start e is = absurd (let q : None ≡ Some start = e in cc)
start_in_range (Rename slot scan path) start e is = absurd (let q : None ≡ Some start = e in cc)
start_in_range (Seen slot changed) start e is = absurd (let q : None ≡ Some start = e in cc)
start_in_range (Forget slot epoch end) start e is = absurd (let q : None ≡ Some start = e in cc)

moment_in_range : (note : Note) (moment : ℕ) → moment_of note ≡ Some moment → IsNote note → moment ≤ MAX_MOMENT
moment_in_range (Begin slot key path epoch base changed) moment e is = let q : Some changed.0 ≡ Some moment = e in let same : changed.0 ≡ moment = cc in subst (λ (n : ℕ). n ≤ MAX_MOMENT) same is.3
moment_in_range (Announce slot epoch) moment e is = absurd (let q : None ≡ Some moment = e in cc)
moment_in_range (Settle slot epoch span cause) moment e is = absurd (let q : None ≡ Some moment = e in cc)
moment_in_range (Rename slot scan path) moment e is = absurd (let q : None ≡ Some moment = e in cc)
moment_in_range (Seen slot changed) moment e is = let q : Some changed.0 ≡ Some moment = e in let same : changed.0 ≡ moment = cc in subst (λ (n : ℕ). n ≤ MAX_MOMENT) same is
moment_in_range (Forget slot epoch end) moment e is = absurd (let q : None ≡ Some moment = e in cc)

span_in_range : (epoch : ℕ) (note : Note) (span : Extent) → span_in epoch note ≡ Some span → IsNote note → IsPlace span.end
span_in_range epoch (Begin slot key path named base changed) span e is = absurd (let q : None ≡ Some span = e in cc)
span_in_range epoch (Announce slot named) span e is = absurd (let q : None ≡ Some span = e in cc)
span_in_range epoch (Settle slot named own cause) span e is = by_case (named.0 == epoch) e
  where
    by_case : (b : Bool) → (if b then Some own else None) ≡ Some span → IsPlace span.end
    by_case true e = let q : Some own ≡ Some span = e in let same : own ≡ span = cc in subst (λ (s : Extent). IsPlace s.end) same is
    by_case false e = absurd (let q : None ≡ Some span = e in cc)
span_in_range epoch (Rename slot scan path) span e is = absurd (let q : None ≡ Some span = e in cc)
span_in_range epoch (Seen slot changed) span e is = absurd (let q : None ≡ Some span = e in cc)
span_in_range epoch (Forget slot named end) span e is = absurd (let q : None ≡ Some span = e in cc)

naming_in_range : (note : Note) (named : Naming) → naming_of note ≡ Some named → IsNote note → IsPath named.path
naming_in_range (Begin slot key path epoch base changed) named e is = absurd (let q : None ≡ Some named = e in cc)
naming_in_range (Announce slot epoch) named e is = absurd (let q : None ≡ Some named = e in cc)
naming_in_range (Settle slot epoch span cause) named e is = absurd (let q : None ≡ Some named = e in cc)
naming_in_range (Rename slot scan path) named e is =
    let q : Some (record { scan = scan; path = path }) ≡ Some named = e in
    let same : record { scan = scan; path = path } ≡ named = cc in
    subst (λ (n : Naming). IsPath n.path) same is
naming_in_range (Seen slot changed) named e is = absurd (let q : None ≡ Some named = e in cc)
naming_in_range (Forget slot epoch end) named e is = absurd (let q : None ≡ Some named = e in cc)

newest_in_range : (namings : List Naming) (newest : Option Naming) → IfSome newest (λ (n : Naming). IsPath n.path) → ((n : Naming) → Contains namings n → IsPath n.path) → IfSome (fold newer newest namings) (λ (n : Naming). IsPath n.path)
newest_in_range [] newest is each = is
newest_in_range (first ∷ namings) newest is each = newest_in_range namings (newer newest first) (by_newest newest is) (λ n there. each n (later_there first n namings there))
  where
    by_newest : (o : Option Naming) → IfSome o (λ (n : Naming). IsPath n.path) → IfSome (newer o first) (λ (n : Naming). IsPath n.path)
    by_newest None is = each first (first_there first namings)
    by_newest (Some other) is = by_case (nat_lt other.scan first.scan)
      where
        by_case : (b : Bool) → IfSome (if b then Some first else Some other) (λ (n : Naming). IsPath n.path)
        by_case true = each first (first_there first namings)
        by_case false = is

module _ (slot : ℕ) (notes : List Note) (in_range : All IsNote notes) where
  own_note : (note : Note) → Contains (notes_of slot notes) note → IsNote note
  own_note note there = All-contains IsNote notes note in_range (there_passed (λ (n : Note). slot_of n == slot) notes note there).0

  pub standing_in_range : (start : Start) → start_over (notes_of slot notes) ≡ Some start → IsRow (standing_row (notes_of slot notes) start)
  standing_in_range start begun =
      let own = notes_of slot notes in
      let found = there_given start_of own start (first_member (filter_map start_of own) start begun) in
      let first = start_in_range found.0 start found.2 (own_note found.0 found.1) in
      record {
        key = first.0;
        path = path_is (fold newer None (filter_map naming_of own)) first.1 (newest_in_range (filter_map naming_of own) None tt (λ n there. let named = there_given naming_of own n there in naming_in_range named.0 n named.2 (own_note named.0 named.1)));
        offset = no_further (spans_in (greatest_epoch own) own) MAX_PLACE (base_in start (greatest_epoch own)) (all_each (λ (s : Extent). s.end ≤ MAX_PLACE) (spans_in (greatest_epoch own) own) (λ s there. let settled = there_given (span_in (greatest_epoch own)) own s there in span_in_range (greatest_epoch own) settled.0 s settled.2 (own_note settled.0 settled.1))) (base_is (greatest_epoch own == start.epoch) first.2);
        changed = greatest_least 0 MAX_MOMENT (filter_map moment_of own) (omega arith) (λ m there. let seen = there_given moment_of own m there in moment_in_range seen.0 m seen.2 (own_note seen.0 seen.1));
      }
    where
      path_is : (o : Option Naming) → IsPath start.path → IfSome o (λ (n : Naming). IsPath n.path) → IsPath (unwrap_or (option_map (λ (n : Naming). n.path) o) start.path)
      path_is None first is = first
      path_is (Some n) first is = is

      base_is : (b : Bool) → IsPlace start.base → IsPlace (if b then start.base else 0)
      base_is true is = is
      base_is false is = omega arith

  pub row_in_range : (row : Option Row) → row ≡ row_over slot notes → IfSome row IsRow
  row_in_range row is = subst (λ (o : Option Row). IfSome o IsRow) (sym is) (by_start (start_over (notes_of slot notes)) refl)
    where
      by_gone : (b : Bool) (start : Start) → start_over (notes_of slot notes) ≡ Some start → IfSome (if b then None else Some (standing_row (notes_of slot notes) start)) IsRow
      by_gone true start e = tt
      by_gone false start e = standing_in_range start e

      by_start : (o : Option Start) → start_over (notes_of slot notes) ≡ o → IfSome (option_and_then (row_of (notes_of slot notes)) o) IsRow
      by_start None e = tt
      by_start (Some start) e = by_gone (is_gone start (notes_of slot notes)) start e
