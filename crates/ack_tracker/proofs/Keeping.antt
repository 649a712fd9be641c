-- What a tracker keeps of keys, with one note more.
use Rattle.std.proofs.Common.{◌≡◌, ◌⊎◌, inl, inr, ℕ, ◌<◌, Bool, true, false, List, [], ◌∷◌, ◌++◌, Contains, Option, Some, None, unwrap_or, IsSome, if◌then◌else◌, refl, sym, ap, ◌∙◌, subst, arith, append_assoc}
use Rattle.std.specs.Option.{option_and_then}
use Rattle.std.proofs.lemmas.Bool.{cases_eq}
use Rattle.wire_base.specs.Ranges.{IsKey}
use Rattle.wire_base.specs.declared.row.Row.{Row}
use Rattle.wire_base.specs.declared.note.Note.{Note}
use Rattle.wire_base.specs.declared.note.Note.TheVariants.{Begin, Announce, Settle, Rename, Seen, Forget}
use Rattle.ship_core.specs.Rows.{find}
use Rattle.ship_core.specs.Orderly.{AreOrderly}
use Rattle.ship_core.specs.RowOver.{Start, slot_of, start_of, notes_of, start_over, row_over}
use Rattle.ship_core.specs.RowsOver.{slots_for, row_for}
use Rattle.ack_tracker.specs.FileState.{FileState, is_gone, row_in}
use Rattle.ack_tracker.specs.Files.{file_of, AreOf}
use Rattle.ack_tracker.specs.Keys.{at_key, slots_at, stands, latest_of, is_begun, row_at, row_now, row_before, key_of_begin, key_with, key_noted, KeepsRows, KeepsSlots, AreFresh, IsTracker}
use Rattle.ack_tracker.proofs.Latest.{HasFile, IsLatest, begun_there, none_begun, latest_none, latest_some, standing, stands_still}
use Rattle.ack_tracker.proofs.Leads.{Stays, GoesOn}
use Rattle.ack_tracker.proofs.Listed.{row_some}
use Rattle.ack_tracker.proofs.OneMore.{start_stays, start_comes, own_more, own_same, front_orderly}

-- ---- what the core's laws say

abbrev pub NoneGiven : Type 0
NoneGiven = (opening : List Row) (notes : List Note) (key : List ℕ) → ((slot : ℕ) → Contains (slots_for key notes) slot → ⊥) → row_for opening notes key ≡ find key opening

abbrev pub AllGone : Type 0
AllGone = (opening : List Row) (notes : List Note) (key : List ℕ) (one : ℕ) → Contains (slots_for key notes) one → ((slot : ℕ) → Contains (slots_for key notes) slot → row_over slot notes ≡ None) → row_for opening notes key ≡ None

abbrev pub Greatest : Type 0
Greatest = (opening : List Row) (notes : List Note) (key : List ℕ) (slot : ℕ) (row : Row) → Contains (slots_for key notes) slot → row_over slot notes ≡ Some row → ((other : ℕ) → Contains (slots_for key notes) other → slot < other → row_over other notes ≡ None) → row_for opening notes key ≡ Some row

abbrev pub Given : Type 0
Given = (notes : List Note) (key : List ℕ) (slot : ℕ) → AreOrderly notes → Contains (slots_for key notes) slot → (start : Start) × (start_over (notes_of slot notes) ≡ Some start) × (start.key ≡ key)

abbrev pub Gives : Type 0
Gives = (notes : List Note) (slot : ℕ) (start : Start) → start_over (notes_of slot notes) ≡ Some start → Contains (slots_for start.key notes) slot

abbrev pub OtherKey : Type 0
OtherKey = (opening : List Row) (notes : List Note) (note : Note) (key : List ℕ) → (Contains (slots_for key (notes ++ note ∷ [])) (slot_of note) → ⊥) → row_for opening (notes ++ note ∷ []) key ≡ row_for opening notes key

pub record Laws : Type 0 where
  pub stays : Stays
  pub goes : GoesOn
  pub none : NoneGiven
  pub all : AllGone
  pub greatest : Greatest
  pub given : Given
  pub gives : Gives

-- ---- the row that a key has now

module _ (laws : Laws) (opening : List Row) (files : List (ℕ × FileState)) (slots : List (List ℕ × List ℕ)) (notes : List Note) (are : AreOf files notes) (indexed : (slot : ℕ) (file : FileState) → file_of files slot ≡ Some file → Contains (slots_at slots file.key) slot) (orderly : AreOrderly notes) (key : List ℕ) where
  abbrev own : List ℕ
  own = slots_at slots key

  some_file : (slot : ℕ) (start : Start) → start_over (notes_of slot notes) ≡ Some start → start.key ≡ key → (o : Option FileState) → file_of files slot ≡ o → HasFile files key slot
  some_file slot start begun same None is = absurd (let q : None ≡ Some start = sym (are.none slot is) ∙ begun in cc)
  some_file slot start begun same (Some file) is =
      let was = are.begun slot file is in
      let q : Some was.0 ≡ Some start = sym was.1 ∙ begun in
      let starts : was.0 ≡ start = cc in
      record { file = file; is = is; key_is = sym was.2 ∙ ap (λ (s : Start). s.key) starts ∙ same }

  -- a slot that a Begin gives to the key has its file, and is kept
  given_file : (slot : ℕ) → Contains (slots_for key notes) slot → HasFile files key slot
  given_file slot there = let start = laws.given notes key slot orderly there in some_file slot start.0 start.1 start.2 (file_of files slot) refl

  kept_slot : (slot : ℕ) → HasFile files key slot → Contains own slot
  kept_slot slot mine = subst (λ (k : List ℕ). Contains (slots_at slots k) slot) mine.key_is (indexed slot mine.file mine.is)

  -- and a slot with a file of the key was given to it
  file_given : (slot : ℕ) → HasFile files key slot → Contains (slots_for key notes) slot
  file_given slot mine =
      let was = are.begun slot mine.file mine.is in
      subst (λ (k : List ℕ). Contains (slots_for k notes) slot) (was.2 ∙ mine.key_is) (laws.gives notes slot was.0 was.1)

  row_of_file : (slot : ℕ) (mine : HasFile files key slot) → row_over slot notes ≡ row_in mine.file
  row_of_file slot mine = row_some files notes are slot laws.stays laws.goes orderly mine.file mine.is

  gone_row : (file : FileState) → is_gone file ≡ true → row_in file ≡ None
  gone_row file gone = rw gone refl

  kept_row : (file : FileState) → is_gone file ≡ false → (row : Row) × (row_in file ≡ Some row)
  kept_row file kept = (record { key = file.key; path = file.path; epoch = record { 0 = file.epoch }; offset = file.covered.end; changed = record { 0 = file.changed } }, rw kept refl)

  not_standing : (slot : ℕ) → Contains (slots_for key notes) slot → stands (file_of files slot) key ≡ false → row_over slot notes ≡ None
  not_standing slot there not = let mine = given_file slot there in row_of_file slot mine ∙ by_gone (is_gone mine.file) mine refl
    where
      by_gone : (b : Bool) (mine : HasFile files key slot) → is_gone mine.file ≡ b → row_in mine.file ≡ None
      by_gone true mine gone = gone_row mine.file gone
      by_gone false mine kept = absurd (let q : true ≡ false = sym (stands_still files key slot mine kept) ∙ not in cc)

  latest_row : (latest : Option ℕ) → latest_of files key None own ≡ latest → (one : ℕ) → HasFile files key one → option_and_then (row_at files) latest ≡ row_for opening notes key
  latest_row None is one mine =
      let none = latest_none files key own None is in
      sym (laws.all opening notes key one (file_given one mine) (λ slot there. not_standing slot there (none.none slot (kept_slot slot (given_file slot there)))))
  latest_row (Some slot) is one mine = by_from found.from
    where
      found : IsLatest files key own None slot
      found = latest_some files key own None slot is

      by_from : (None ≡ Some slot) ⊎ (Contains own slot × (stands (file_of files slot) key ≡ true)) → option_and_then (row_at files) (Some slot) ≡ row_for opening notes key
      by_from (inl e) = absurd (let q : None ≡ Some slot = e in cc)
      by_from (inr at) =
          let stand = standing files key slot at.1 in
          let row = kept_row stand.0.file stand.1 in
          let here : row_at files slot ≡ Some row.0 = ap (option_and_then row_in) stand.0.is ∙ row.1 in
          here ∙ sym (laws.greatest opening notes key slot row.0 (file_given slot stand.0) (row_of_file slot stand.0 ∙ row.1)
          (λ other there above. not_standing other there (lower other there above)))
        where
          lower : (other : ℕ) → Contains (slots_for key notes) other → slot < other → stands (file_of files other) key ≡ false
          lower other there above = by_case (stands (file_of files other) key) refl
            where
              by_case : (b : Bool) → stands (file_of files other) key ≡ b → b ≡ false
              by_case false e = refl
              by_case true e = absurd (let le = found.others other (kept_slot other (given_file other there)) e in omega (arith, above, le))

  -- nothing began with the key: its row is the opening one
  pub row_none : row_now files own key ≡ None → (slot : ℕ) → Contains (slots_for key notes) slot → ⊥
  row_none e slot there = by_case (is_begun files key own) refl e
    where
      by_case : (b : Bool) → is_begun files key own ≡ b → (if b then Some (option_and_then (row_at files) (latest_of files key None own)) else None) ≡ None → ⊥
      by_case true is e = let q : Some (option_and_then (row_at files) (latest_of files key None own)) ≡ None = e in cc
      by_case false is e = let mine = given_file slot there in none_begun files key own slot is (kept_slot slot mine) mine

  pub row_some_now : (now : Option Row) → row_now files own key ≡ Some now → now ≡ row_for opening notes key
  row_some_now now e = by_case (is_begun files key own) refl e
    where
      by_case : (b : Bool) → is_begun files key own ≡ b → (if b then Some (option_and_then (row_at files) (latest_of files key None own)) else None) ≡ Some now → now ≡ row_for opening notes key
      by_case true is e =
          let one = begun_there files key own is in
          let q : Some (option_and_then (row_at files) (latest_of files key None own)) ≡ Some now = e in
          let same : option_and_then (row_at files) (latest_of files key None own) ≡ now = cc in
          sym same ∙ latest_row (latest_of files key None own) refl one.0 one.2
      by_case false is e = absurd (let q : None ≡ Some now = e in cc)

  pub row_is : row_before opening files slots key ≡ row_for opening notes key
  row_is = by_case (row_now files own key) refl
    where
      by_case : (o : Option (Option Row)) → row_now files own key ≡ o → unwrap_or o (find key opening) ≡ row_for opening notes key
      by_case None e = sym (laws.none opening notes key (row_none e))
      by_case (Some now) e = row_some_now now e

-- ---- before a note

module _ (laws : Laws) (opening : List Row) (files : List (ℕ × FileState)) (slots new_slots : List (List ℕ × List ℕ)) (noted new_noted : List (List ℕ × Option Row)) (fresh new_fresh : List ℕ) (notes committed : List Note) (was : IsTracker opening files slots noted fresh notes committed) (keeps : KeepsRows noted new_noted (row_before opening files slots)) (keeps_slots : KeepsSlots slots new_slots) (are_fresh : AreFresh new_fresh files new_noted) where
  rows_kept : AreOrderly notes → (key : List ℕ) → unwrap_or (at_key new_noted key) (row_for opening notes key) ≡ row_for opening committed key
  rows_kept orderly key = by_case (keeps key)
    where
      by_case : (at_key new_noted key ≡ at_key noted key) ⊎ ((at_key noted key ≡ None) × IsKey key × (at_key new_noted key ≡ Some (row_before opening files slots key))) → unwrap_or (at_key new_noted key) (row_for opening notes key) ≡ row_for opening committed key
      by_case (inl same) = ap (λ (o : Option (Option Row)). unwrap_or o (row_for opening notes key)) same ∙ was.rows orderly key
      by_case (inr set) =
          ap (λ (o : Option (Option Row)). unwrap_or o (row_for opening notes key)) set.2
          ∙ row_is laws opening files slots notes was.are was.indexed orderly key
          ∙ sym (ap (λ (o : Option (Option Row)). unwrap_or o (row_for opening notes key)) set.0)
          ∙ was.rows orderly key

  keys_kept : (key : List ℕ) (row : Option Row) → at_key new_noted key ≡ Some row → IsKey key
  keys_kept key row e = by_case (keeps key)
    where
      by_case : (at_key new_noted key ≡ at_key noted key) ⊎ ((at_key noted key ≡ None) × IsKey key × (at_key new_noted key ≡ Some (row_before opening files slots key))) → IsKey key
      by_case (inl same) = was.keys key row (sym same ∙ e)
      by_case (inr set) = set.1

  pub prepared : IsTracker opening files new_slots new_noted new_fresh notes committed
  prepared = record {
    are = was.are;
    indexed = λ slot file is. keeps_slots file.key slot (was.indexed slot file is);
    front = was.front;
    rows = rows_kept;
    keys = keys_kept;
    fresh_are = are_fresh;
  }

-- ---- a note

begin_key : (note : Note) (start : Start) → start_of note ≡ Some start → key_of_begin note ≡ Some start.key
begin_key (Begin slot key path epoch base changed) start e =
    let q : Some (record { key = key; path = path; epoch = epoch.0; base = base }) ≡ Some start = e in
    let same : record { key = key; path = path; epoch = epoch.0; base = base } ≡ start = cc in
    ap (λ (s : Start). Some s.key) same
begin_key (Announce slot epoch) start e = absurd (let q : None ≡ Some start = e in cc)
begin_key (Settle slot epoch span cause) start e = absurd (let q : None ≡ Some start = e in cc)
begin_key (Rename slot scan path) start e = absurd (let q : None ≡ Some start = e in cc)
begin_key (Seen slot changed) start e = absurd (let q : None ≡ Some start = e in cc)
begin_key (Forget slot epoch end) start e = absurd (let q : None ≡ Some start = e in cc)

module _ (given : Given) (other_key : OtherKey) (opening : List Row) (files new_files : List (ℕ × FileState)) (slots : List (List ℕ × List ℕ)) (noted : List (List ℕ × Option Row)) (fresh : List ℕ) (notes committed : List Note) (note : Note) (was : IsTracker opening files slots noted fresh notes committed) (are : AreOf new_files (notes ++ note ∷ []))
    (here : (key : List ℕ) → key_noted files note ≡ Some key → IsSome (at_key noted key))
    (gave : (start : Start) → start_of note ≡ Some start → file_of files (slot_of note) ≡ None → Contains (slots_at slots start.key) (slot_of note)) where
  -- the key of a slot that began by then is that of its file, or else of this note
  started : (slot : ℕ) (start : Start) → start_over (notes_of slot (notes ++ note ∷ [])) ≡ Some start → ((file : FileState) × (file_of files slot ≡ Some file) × (file.key ≡ start.key)) ⊎ ((file_of files slot ≡ None) × (slot_of note ≡ slot) × (start_of note ≡ Some start))
  started slot start begun = by_file (file_of files slot) refl
    where
      by_slot : file_of files slot ≡ None → (slot_of note ≡ slot) ⊎ (slot_of note ≡ slot → ⊥) → (file_of files slot ≡ None) × (slot_of note ≡ slot) × (start_of note ≡ Some start)
      by_slot is (inl same) = (is, same, sym (ap start_over (own_more slot notes note same) ∙ start_comes (notes_of slot notes) note (was.are.none slot is)) ∙ begun)
      by_slot is (inr other) = absurd (let q : None ≡ Some start = sym (ap start_over (own_same slot notes note other) ∙ was.are.none slot is) ∙ begun in cc)

      stays_begun : (first : Start) → start_over (notes_of slot notes) ≡ Some first → (slot_of note ≡ slot) ⊎ (slot_of note ≡ slot → ⊥) → first ≡ start
      stays_begun first e (inl same) = let q : Some first ≡ Some start = sym (ap start_over (own_more slot notes note same) ∙ start_stays (notes_of slot notes) note first e) ∙ begun in cc
      stays_begun first e (inr other) = let q : Some first ≡ Some start = sym (ap start_over (own_same slot notes note other) ∙ e) ∙ begun in cc

      by_file : (o : Option FileState) → file_of files slot ≡ o → ((file : FileState) × (file_of files slot ≡ Some file) × (file.key ≡ start.key)) ⊎ ((file_of files slot ≡ None) × (slot_of note ≡ slot) × (start_of note ≡ Some start))
      by_file None is = inr (by_slot is (cases_eq (slot_of note) slot))
      by_file (Some file) is =
          let begun_so = was.are.begun slot file is in
          inl (file, is, sym begun_so.2 ∙ ap (λ (s : Start). s.key) (stays_begun begun_so.0 begun_so.1 (cases_eq (slot_of note) slot)))

  -- a key that is not noted keeps its row
  same_row : AreOrderly (notes ++ note ∷ []) → (key : List ℕ) → at_key noted key ≡ None → row_for opening (notes ++ note ∷ []) key ≡ row_for opening notes key
  same_row orderly key none = other_key opening notes note key absent
    where
      is_noted : (o : Option (List ℕ)) → key_noted files note ≡ o → o ≡ Some key → ⊥
      is_noted o e same = let some = here key (e ∙ same) in let q : false ≡ true = subst IsSome none some in cc

      absent : Contains (slots_for key (notes ++ note ∷ [])) (slot_of note) → ⊥
      absent there =
          let start = given (notes ++ note ∷ []) key (slot_of note) orderly there in
          by_start (started (slot_of note) start.0 start.1) start.2
        where
          by_start : {start : Start} → ((file : FileState) × (file_of files (slot_of note) ≡ Some file) × (file.key ≡ start.key)) ⊎ ((file_of files (slot_of note) ≡ None) × (slot_of note ≡ slot_of note) × (start_of note ≡ Some start)) → start.key ≡ key → ⊥
          by_start {start} (inl old) same = is_noted (key_noted files note) refl (ap (λ (o : Option FileState). key_with o note) old.1 ∙ ap Some (old.2 ∙ same))
          by_start {start} (inr new) same = is_noted (key_noted files note) refl (ap (λ (o : Option FileState). key_with o note) new.0 ∙ begin_key note start new.2 ∙ ap Some same)

  rows_then : AreOrderly (notes ++ note ∷ []) → (key : List ℕ) → unwrap_or (at_key noted key) (row_for opening (notes ++ note ∷ []) key) ≡ row_for opening committed key
  rows_then orderly key = by_case (at_key noted key) refl
    where
      before : unwrap_or (at_key noted key) (row_for opening notes key) ≡ row_for opening committed key
      before = was.rows (front_orderly notes note orderly) key

      by_case : (o : Option (Option Row)) → at_key noted key ≡ o → unwrap_or o (row_for opening (notes ++ note ∷ []) key) ≡ row_for opening committed key
      by_case None is = same_row orderly key is ∙ sym (ap (λ (o : Option (Option Row)). unwrap_or o (row_for opening notes key)) is) ∙ before
      by_case (Some row) is = sym (ap (λ (o : Option (Option Row)). unwrap_or o (row_for opening notes key)) is) ∙ before

  indexed_then : (slot : ℕ) (file : FileState) → file_of new_files slot ≡ Some file → Contains (slots_at slots file.key) slot
  indexed_then slot file is =
      let begun = are.begun slot file is in
      by_start begun.0 begun.2 (started slot begun.0 begun.1)
    where
      by_start : (start : Start) → start.key ≡ file.key → ((old : FileState) × (file_of files slot ≡ Some old) × (old.key ≡ start.key)) ⊎ ((file_of files slot ≡ None) × (slot_of note ≡ slot) × (start_of note ≡ Some start)) → Contains (slots_at slots file.key) slot
      by_start start same (inl old) = subst (λ (k : List ℕ). Contains (slots_at slots k) slot) (old.2 ∙ same) (was.indexed slot old.0 old.1)
      by_start start same (inr new) =
          subst (λ (k : List ℕ). Contains (slots_at slots k) slot) same
          (subst (λ (s : ℕ). Contains (slots_at slots start.key) s) new.1 (gave start new.2 (ap (file_of files) new.1 ∙ new.0)))

  -- the file of a slot that had one is of the same key
  fresh_then : AreFresh fresh new_files noted
  fresh_then slot there = by_file (file_of new_files slot) refl
    where
      had : (file : FileState) × (file_of files slot ≡ Some file) × IsSome (at_key noted file.key)
      had = was.fresh_are slot there

      begun_then : start_over (notes_of slot (notes ++ note ∷ [])) ≡ Some (was.are.begun slot had.0 had.1).0
      begun_then = by_slot (cases_eq (slot_of note) slot)
        where
          by_slot : (slot_of note ≡ slot) ⊎ (slot_of note ≡ slot → ⊥) → start_over (notes_of slot (notes ++ note ∷ [])) ≡ Some (was.are.begun slot had.0 had.1).0
          by_slot (inl same) = ap start_over (own_more slot notes note same) ∙ start_stays (notes_of slot notes) note (was.are.begun slot had.0 had.1).0 (was.are.begun slot had.0 had.1).1
          by_slot (inr other) = ap start_over (own_same slot notes note other) ∙ (was.are.begun slot had.0 had.1).1

      by_file : (o : Option FileState) → file_of new_files slot ≡ o → (file : FileState) × (file_of new_files slot ≡ Some file) × IsSome (at_key noted file.key)
      by_file None is = absurd (let q : None ≡ Some (was.are.begun slot had.0 had.1).0 = sym (are.none slot is) ∙ begun_then in cc)
      by_file (Some file) is =
          let now = are.begun slot file is in
          let q : Some now.0 ≡ Some (was.are.begun slot had.0 had.1).0 = sym now.1 ∙ begun_then in
          let starts : now.0 ≡ (was.are.begun slot had.0 had.1).0 = cc in
          let keys : had.0.key ≡ file.key = sym (was.are.begun slot had.0 had.1).2 ∙ sym (ap (λ (s : Start). s.key) starts) ∙ now.2 in
          (file, is, subst (λ (k : List ℕ). IsSome (at_key noted k)) keys had.2)

  pub noted_then : IsTracker opening new_files slots noted fresh (notes ++ note ∷ []) committed
  noted_then = record {
    are = are;
    indexed = indexed_then;
    front = (was.front.0 ++ note ∷ [], ap (λ (l : List Note). l ++ note ∷ []) was.front.1 ∙ append_assoc committed was.front.0 (note ∷ []));
    rows = rows_then;
    keys = was.keys;
    fresh_are = fresh_then;
  }

-- files that are the same
pub same_files : (opening : List Row) (files new_files : List (ℕ × FileState)) (slots : List (List ℕ × List ℕ)) (noted : List (List ℕ × Option Row)) (fresh : List ℕ) (notes committed : List Note) → new_files ≡ files → IsTracker opening files slots noted fresh notes committed → IsTracker opening new_files slots noted fresh notes committed
same_files opening files new_files slots noted fresh notes committed same was = subst (λ (f : List (ℕ × FileState)). IsTracker opening f slots noted fresh notes committed) (sym same) was
