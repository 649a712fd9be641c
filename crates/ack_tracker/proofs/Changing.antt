-- What leads from the rows last committed to the present ones.
use Rattle.std.proofs.Common.{◌≡◌, ◌⊎◌, inl, inr, ℕ, Bool, true, false, List, [], ◌∷◌, map, All, Contains, Option, Some, None, unwrap_or, if◌then◌else◌, refl, sym, ap, ◌∙◌, subst}
use Rattle.std.specs.List.{filter_map, cons_option, AllByRecursion}
use Rattle.std.specs.List.Sorted.{IsStrictlySortedBy}
use Rattle.std.specs.Option.{option_and_then}
use Rattle.std.specs.declared.cmp.Ordering.TheVariants.{Less}
use Rattle.std.proofs.lemmas.List.Elements.{All-from_recursion, filter_map-append, Contains-append_left}
use Rattle.wire_base.specs.KeyOrder as entries
use Rattle.wire_base.specs.KeyOrder.{compare}
use Rattle.wire_base.specs.declared.row.Row.{Row}
use Rattle.wire_base.specs.declared.row.Op.{Op}
use Rattle.wire_base.specs.declared.row.Op.TheVariants.{Set, Remove}
use Rattle.wire_base.specs.declared.note.Note.{Note}
use Rattle.ship_core.specs.Changes.{AreAscending, AreKeysAscending, LeadTo, change_of, changes_at, is_same, key_in, op_for}
use Rattle.ship_core.specs.Orderly.{AreOrderly}
use Rattle.ship_core.specs.Rows.{IsInOrder, find}
use Rattle.ship_core.specs.RowsOver.{AreRowsOver, slot_for, slots_for, row_for}
use Rattle.ack_tracker.specs.FileState.{FileState, is_gone, row_in}
use Rattle.ack_tracker.specs.Files.{file_of, gone_among, AreOf}
use Rattle.ack_tracker.specs.Keys.{at_key, slots_at, is_begun, latest_of, row_at, row_now, change_now, stands, IsTracker, SetsBegun}
use Rattle.ack_tracker.proofs.AtKey.{found_at_key}
use Rattle.ack_tracker.proofs.Contained.{first_there, later_there, there_cases, none_there}
use Rattle.ack_tracker.proofs.Keeping.{Laws, row_none, row_some_now}
use Rattle.ack_tracker.proofs.Latest.{HasFile, latest_some, standing}
use Rattle.ack_tracker.proofs.Listed.{kept_not}

abbrev pub Lead : Type 0
Lead = (from to : List Row) (keys : List (List ℕ)) → IsInOrder from → IsInOrder to → AreKeysAscending keys → ((key : List ℕ) → (Contains keys key → ⊥) → find key from ≡ find key to) → LeadTo from to (changes_at keys from to)

abbrev pub Unchanged : Type 0
Unchanged = (key : List ℕ) (row : Option Row) → change_of key row row ≡ None

abbrev pub first_of : List ℕ × Option Row → List ℕ
first_of entry = entry.0

-- ---- over lists

given_same : {X Y Z : Type 0} (f : X → Z) (h : X → Option Y) (g : Z → Option Y) (xs : List X) → ((x : X) → Contains xs x → h x ≡ g (f x)) → filter_map h xs ≡ filter_map g (map f xs)
given_same f h g [] same = refl
given_same {X} f h g (x ∷ xs) same = λ k. cons_option (same x (first_there x xs) k) (given_same f h g xs (λ y there. same y (later_there x y xs there)) k)

mapped_there : {X Z : Type 0} (f : X → Z) (xs : List X) (x : X) → Contains xs x → Contains (map f xs) (f x)
mapped_there f [] x there = absurd (none_there x there)
mapped_there {X} {Z} f (first ∷ xs) x there = by_case (there_cases first x xs there) (mapped_there f xs x)
  where
    by_case : (first ≡ x) ⊎ Contains xs x → (Contains xs x → Contains (map f xs) (f x)) → Contains (f first ∷ map f xs) (f x)
    by_case (inl same) h = subst (λ (z : X). Contains (f first ∷ map f xs) (f z)) same (first_there (f first) (map f xs))
    by_case (inr later) h = later_there (f first) (f x) (map f xs) (h later)

all_given : {X Y : Type 0} (P : Y → Type 0) (h : X → Option Y) (xs : List X) → ((x : X) (y : Y) → h x ≡ Some y → P y) → AllByRecursion P (filter_map h xs)
all_given P h [] each = tt
all_given {X} {Y} P h (x ∷ xs) each = by_case (h x) refl (all_given P h xs each)
  where
    by_case : (o : Option Y) → h x ≡ o → AllByRecursion P (filter_map h xs) → AllByRecursion P (cons_option o (filter_map h xs))
    by_case None is rest = rest
    by_case (Some y) is rest = (each x y is, rest)

before_all : (key : List ℕ) (keys : List (List ℕ)) → AllByRecursion (λ (other : List ℕ). compare key other ≡ Less) keys → entries.IsBefore (λ (k : List ℕ). k) key keys
before_all key [] all = tt
before_all key (other ∷ keys) all = (all.0, before_all key keys all.1)

pub keys_ascend : (keys : List (List ℕ)) → IsStrictlySortedBy compare keys → AreKeysAscending keys
unfolding IsStrictlySortedBy
keys_ascend [] sorted = tt
keys_ascend (key ∷ keys) sorted = (before_all key keys sorted.0, keys_ascend keys sorted.1)

-- ---- one key

-- an operation is for its key
op_told : (key : List ℕ) (was now : Option Row) (op : Op) → change_of key was now ≡ Some op → op ≡ op_for key now
op_told key was now op e = by_case (is_same was now) e
  where
    by_case : (b : Bool) → (if b then None else Some (op_for key now)) ≡ Some op → op ≡ op_for key now
    by_case true e = absurd (let q : None ≡ Some op = e in cc)
    by_case false e = let q : Some (op_for key now) ≡ Some op = e in cc

-- the row that a key has now is that of a slot which began with it
pub record IsStanding (files : List (ℕ × FileState)) (key : List ℕ) (row : Row) : Type 0 where
  pub slot : ℕ
  pub mine : HasFile files key slot
  pub kept : is_gone mine.file ≡ false
  pub key_is : row.key ≡ key

module _ (files : List (ℕ × FileState)) (slots : List (List ℕ × List ℕ)) where
  now_standing : (key : List ℕ) (row : Row) → row_now files (slots_at slots key) key ≡ Some (Some row) → IsStanding files key row
  now_standing key row e = by_begun (is_begun files key (slots_at slots key)) e
    where
      row_key : (file : FileState) (b : Bool) → (if b then None else Some (record { key = file.key; path = file.path; epoch = record { 0 = file.epoch }; offset = file.covered.end; changed = record { 0 = file.changed } })) ≡ Some row → row.key ≡ file.key
      row_key file true e = absurd (let q : None ≡ Some row = e in cc)
      row_key file false e =
          let made : Row = record { key = file.key; path = file.path; epoch = record { 0 = file.epoch }; offset = file.covered.end; changed = record { 0 = file.changed } } in
          let q : Some made ≡ Some row = e in let same : made ≡ row = cc in sym (ap (λ (r : Row). r.key) same)

      by_latest : (latest : Option ℕ) → latest_of files key None (slots_at slots key) ≡ latest → option_and_then (row_at files) latest ≡ Some row → IsStanding files key row
      by_latest None is e = absurd (let q : None ≡ Some row = e in cc)
      by_latest (Some slot) is e = by_from (latest_some files key (slots_at slots key) None slot is).from
        where
          by_from : (None ≡ Some slot) ⊎ (Contains (slots_at slots key) slot × (stands (file_of files slot) key ≡ true)) → IsStanding files key row
          by_from (inl none) = absurd (let q : None ≡ Some slot = none in cc)
          by_from (inr at) =
              let stand = standing files key slot at.1 in
              let here : row_in stand.0.file ≡ Some row = sym (ap (option_and_then row_in) stand.0.is) ∙ e in
              record { slot = slot; mine = stand.0; kept = stand.1; key_is = row_key stand.0.file (is_gone stand.0.file) here ∙ stand.0.key_is }

      by_begun : (b : Bool) → (if b then Some (option_and_then (row_at files) (latest_of files key None (slots_at slots key))) else None) ≡ Some (Some row) → IsStanding files key row
      by_begun true e =
          let q : Some (option_and_then (row_at files) (latest_of files key None (slots_at slots key))) ≡ Some (Some row) = e in
          by_latest (latest_of files key None (slots_at slots key)) refl (let r : option_and_then (row_at files) (latest_of files key None (slots_at slots key)) ≡ Some row = cc in r)
      by_begun false e = absurd (let q : None ≡ Some (Some row) = e in cc)

  -- an operation removes its key's row, or sets the one that is there
  told_now : (P : Op → Type 0) (key : List ℕ) (was : Option Row) (op : Op) → P (Remove key) → ((row : Row) → IsStanding files key row → P (Set row)) → change_now files slots (key, was) ≡ Some op → P op
  told_now P key was op removed set e = by_now (row_now files (slots_at slots key) key) refl e
    where
      by_row : (now : Option Row) → row_now files (slots_at slots key) key ≡ Some now → op ≡ op_for key now → P op
      by_row None is told = subst P (sym told) removed
      by_row (Some row) is told = subst P (sym told) (set row (now_standing key row is))

      by_now : (o : Option (Option Row)) → row_now files (slots_at slots key) key ≡ o → option_and_then (change_of key was) o ≡ Some op → P op
      by_now None is e = absurd (let q : None ≡ Some op = e in cc)
      by_now (Some now) is e = by_row now is (op_told key was now op e)

  key_told : (entry : List ℕ × Option Row) (op : Op) → change_now files slots entry ≡ Some op → key_in op ≡ entry.0
  key_told entry op e = told_now (λ (p : Op). key_in p ≡ entry.0) entry.0 entry.1 op refl (λ row standing. standing.key_is) e

  before_told : (first : List ℕ) (noted : List (List ℕ × Option Row)) → entries.IsBefore (λ (k : List ℕ). k) first (map first_of noted) → entries.IsBefore key_in first (filter_map (change_now files slots) noted)
  before_told first [] before = tt
  before_told first (entry ∷ noted) before = by_case (change_now files slots entry) refl (before_told first noted before.1)
    where
      by_case : (o : Option Op) → change_now files slots entry ≡ o → entries.IsBefore key_in first (filter_map (change_now files slots) noted) → entries.IsBefore key_in first (cons_option o (filter_map (change_now files slots) noted))
      by_case None is rest = rest
      by_case (Some op) is rest = (subst (λ (k : List ℕ). compare first k ≡ Less) (sym (key_told entry op is)) before.0, rest)

  pub told_ascend : (noted : List (List ℕ × Option Row)) → AreKeysAscending (map first_of noted) → AreAscending (filter_map (change_now files slots) noted)
  told_ascend [] ordered = tt
  told_ascend (entry ∷ noted) ordered = by_case (change_now files slots entry) refl (told_ascend noted ordered.1)
    where
      by_case : (o : Option Op) → change_now files slots entry ≡ o → AreAscending (filter_map (change_now files slots) noted) → AreAscending (cons_option o (filter_map (change_now files slots) noted))
      by_case None is rest = rest
      by_case (Some op) is rest = (subst (λ (k : List ℕ). entries.IsBefore key_in k (filter_map (change_now files slots) noted)) (sym (key_told entry op is)) (before_told entry.0 noted ordered.0), rest)

  pub told_begun : (notes : List Note) → AreOf files notes → (noted : List (List ℕ × Option Row)) → All (SetsBegun notes (gone_among files)) (filter_map (change_now files slots) noted)
  told_begun notes are noted =
      All-from_recursion (SetsBegun notes (gone_among files)) (filter_map (change_now files slots) noted)
      (all_given (SetsBegun notes (gone_among files)) (change_now files slots) noted (λ entry op is. told_now (SetsBegun notes (gone_among files)) entry.0 entry.1 op tt set_begun is))
    where
      set_begun : {key : List ℕ} (row : Row) → IsStanding files key row → SetsBegun notes (gone_among files) (Set row)
      set_begun row standing =
          let begun = are.begun standing.slot standing.mine.file standing.mine.is in
          (standing.slot, begun.0, begun.1, begun.2 ∙ standing.mine.key_is ∙ sym standing.key_is, kept_not files notes are standing.slot standing.mine.file standing.mine.is standing.kept)

-- ---- all of them

module _ (laws : Laws) (lead : Lead) (unchanged : Unchanged) (opening : List Row) (files : List (ℕ × FileState)) (slots : List (List ℕ × List ℕ)) (noted : List (List ℕ × Option Row)) (fresh : List ℕ) (notes committed : List Note) (was : IsTracker opening files slots noted fresh notes committed) (orderly : AreOrderly notes)
    (sorted : AreKeysAscending (map first_of noted)) (found : (entry : List ℕ × Option Row) → Contains noted entry → at_key noted entry.0 ≡ Some entry.1) (from to : List Row) (over_from : AreRowsOver opening committed from) (over_to : AreRowsOver opening notes to) where
  -- a key that no Begin names had no row but the opening one
  none_committed : (key : List ℕ) → row_now files (slots_at slots key) key ≡ None → row_for opening committed key ≡ find key opening
  none_committed key none = laws.none opening committed key (λ slot there.
      row_none laws opening files slots notes was.are was.indexed orderly key none slot
      (subst (λ (l : List Note). Contains (slots_for key l) slot) (sym was.front.1)
      (subst (λ (l : List ℕ). Contains l slot) (sym (filter_map-append (slot_for key) committed was.front.0)) (Contains-append_left (slots_for key committed) (slots_for key was.front.0) slot there))))

  same_change : (entry : List ℕ × Option Row) → Contains noted entry → change_now files slots entry ≡ change_of entry.0 (find entry.0 from) (find entry.0 to)
  same_change entry there = by_now (row_now files (slots_at slots entry.0) entry.0) refl
    where
      kept : entry.1 ≡ row_for opening committed entry.0
      kept =
          sym (ap (λ (o : Option (Option Row)). unwrap_or o (row_for opening notes entry.0)) (found entry there))
          ∙ was.rows orderly entry.0

      by_now : (o : Option (Option Row)) → row_now files (slots_at slots entry.0) entry.0 ≡ o → option_and_then (change_of entry.0 entry.1) o ≡ change_of entry.0 (find entry.0 from) (find entry.0 to)
      by_now None is =
          let same : find entry.0 from ≡ find entry.0 to = over_from.each entry.0 ∙ none_committed entry.0 is ∙ sym (laws.none opening notes entry.0 (row_none laws opening files slots notes was.are was.indexed orderly entry.0 is)) ∙ sym (over_to.each entry.0) in
          sym (ap (λ (row : Option Row). change_of entry.0 row (find entry.0 to)) same ∙ unchanged entry.0 (find entry.0 to))
      by_now (Some now) is =
          let before : entry.1 ≡ find entry.0 from = kept ∙ sym (over_from.each entry.0) in
          let after : now ≡ find entry.0 to = row_some_now laws opening files slots notes was.are was.indexed orderly entry.0 now is ∙ sym (over_to.each entry.0) in
          λ k. change_of entry.0 (before k) (after k)

  other_keys : (key : List ℕ) → (Contains (map first_of noted) key → ⊥) → find key from ≡ find key to
  other_keys key absent = by_case (at_key noted key) refl
    where
      by_case : (o : Option (Option Row)) → at_key noted key ≡ o → find key from ≡ find key to
      by_case None is =
          over_from.each key
          ∙ sym (was.rows orderly key)
          ∙ ap (λ (o : Option (Option Row)). unwrap_or o (row_for opening notes key)) is
          ∙ sym (over_to.each key)
      by_case (Some row) is = absurd (absent (mapped_there first_of noted (key, row) (found_at_key noted key row is)))

  pub changes_lead : LeadTo from to (filter_map (change_now files slots) noted)
  changes_lead =
      subst (LeadTo from to) (sym (given_same first_of (change_now files slots) (λ (key : List ℕ). change_of key (find key from) (find key to)) noted same_change))
      (lead from to (map first_of noted) over_from.in_order over_to.in_order sorted other_keys)
