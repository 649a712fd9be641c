-- Rows over opening rows and orderly notes, made key by key.
use Rattle.std.proofs.Common.{◌≡◌, ◌≢◌, ◌⊎◌, inl, inr, ℕ, ◌<◌, ◌≤◌, Bool, true, false, List, [], ◌∷◌, max, Contains, Option, Some, None, if◌then◌else◌, ◌==◌, refl, sym, ap, ◌∙◌, subst, arith}
use Rattle.std.specs.List.{filter, filter_map, fold}
use Rattle.std.specs.Option.{is_some, option_and_then}
use Rattle.std.specs.Ordering.{is_eq}
use Rattle.std.specs.declared.cmp.Ordering.{Ordering}
use Rattle.std.specs.declared.cmp.Ordering.TheVariants.{Less, Equal, Greater}
use Rattle.std.proofs.lemmas.Bool.{cases_lt, eq-eqb}
use Rattle.wire_base.proofs.ByteOrder.{same_key, compare_same}
use Rattle.wire_base.proofs.Keyed.{in_order-with, in_order-without, find-with, find-with_not, find-without, find-without_not}
use Rattle.wire_base.specs.KeyOrder.{compare}
use Rattle.wire_base.specs.declared.row.Row.{Row}
use Rattle.wire_base.specs.declared.note.Note.{Note}
use Rattle.wire_base.specs.declared.note.Note.TheVariants.{Begin, Announce, Settle, Rename, Seen, Forget}
use Rattle.ship_core.specs.Rows.{key_of, IsInOrder, find}
use Rattle.ship_core.specs.Changes.{op_for}
use Rattle.ship_core.specs.Replay.{after_op, with_row}
use Rattle.ship_core.specs.Orderly.{AreOrderly}
use Rattle.ship_core.specs.RowOver.{Start, slot_of, start_of, notes_of, start_over, is_gone, row_of, row_over}
use Rattle.ship_core.specs.RowsOver.{slot_for, slots_for, row_of_greatest, row_among, row_for, AreRowsOver}
use Rattle.ship_core.proofs.Members.{Within, first_there, later_there, there_cases, none_there, there_passed, passed_there, there_given, given_there}
use Rattle.ship_core.proofs.Reordered.{one_start, first_member}

-- ---- one key after another

abbrev pub put : List ℕ → Option Row → List Row → List Row
put key row rows = after_op rows (op_for key row)

built : List Row → List Note → List (List ℕ) → List Row
built opening notes [] = opening
built opening notes (key ∷ keys) = put key (row_for opening notes key) (built opening notes keys)

-- the row, if there is one, has the key
abbrev pub HasKey : List ℕ → Option Row → Type 0
HasKey key o = (row : Row) → o ≡ Some row → row.key ≡ key

put_in_order : (key : List ℕ) (o : Option Row) (rows : List Row) → IsInOrder rows → IsInOrder (put key o rows)
put_in_order key None rows ordered = in_order-without key_of key rows ordered
put_in_order key (Some row) rows ordered = in_order-with key_of row rows ordered

pub put_here : (key : List ℕ) (o : Option Row) (rows : List Row) → HasKey key o → find key (put key o rows) ≡ o
put_here key None rows has = find-without key_of key rows
put_here key (Some row) rows has = ap (λ (k : List ℕ). find k (with_row row rows)) (sym (has row refl)) ∙ find-with key_of row rows

pub put_others : (key other : List ℕ) (o : Option Row) (rows : List Row) → HasKey key o → other ≢ key → find other (put key o rows) ≡ find other rows
put_others key other None rows has differs = find-without_not key_of key other rows differs
put_others key other (Some row) rows has differs = find-with_not key_of row rows other (λ same. differs (same ∙ has row refl))

built_in_order : (opening : List Row) (notes : List Note) (keys : List (List ℕ)) → IsInOrder opening → IsInOrder (built opening notes keys)
unfolding built
built_in_order opening notes [] ordered = ordered
built_in_order opening notes (key ∷ keys) ordered = put_in_order key (row_for opening notes key) (built opening notes keys) (built_in_order opening notes keys ordered)

module _ (opening : List Row) (notes : List Note) (has : (key : List ℕ) → HasKey key (row_for opening notes key)) where
  built_here : (keys : List (List ℕ)) (key : List ℕ) → Contains keys key → find key (built opening notes keys) ≡ row_for opening notes key
  unfolding built
  built_here [] key there = absurd (none_there key there)
  built_here (first ∷ keys) key there = by_order (compare key first) refl (there_cases first key keys there) (built_here keys key)
    where
      later : (o : Ordering) → compare key first ≡ o → o ≢ Equal → (first ≡ key) ⊎ Contains keys key → (Contains keys key → find key (built opening notes keys) ≡ row_for opening notes key) → find key (put first (row_for opening notes first) (built opening notes keys)) ≡ row_for opening notes key
      later o is not (inl same) h = absurd (not (sym is ∙ compare_same key first (sym same)))
      later o is not (inr behind) h = put_others first key (row_for opening notes first) (built opening notes keys) (has first) (λ same. not (sym is ∙ compare_same key first same)) ∙ h behind

      by_order : (o : Ordering) → compare key first ≡ o → (first ≡ key) ⊎ Contains keys key → (Contains keys key → find key (built opening notes keys) ≡ row_for opening notes key) → find key (put first (row_for opening notes first) (built opening notes keys)) ≡ row_for opening notes key
      by_order Less is which h = later Less is (λ q. cc) which h
      by_order Greater is which h = later Greater is (λ q. cc) which h
      by_order Equal is which h =
          let same : key ≡ first = same_key key first is in
          subst (λ (k : List ℕ). find k (put first (row_for opening notes first) (built opening notes keys)) ≡ row_for opening notes k) (sym same) (put_here first (row_for opening notes first) (built opening notes keys) (has first))

  built_elsewhere : (keys : List (List ℕ)) (key : List ℕ) → (Contains keys key → ⊥) → find key (built opening notes keys) ≡ find key opening
  unfolding built
  built_elsewhere [] key absent = refl
  built_elsewhere (first ∷ keys) key absent =
      put_others first key (row_for opening notes first) (built opening notes keys) (has first) (λ same. absent (subst (λ (k : List ℕ). Contains (first ∷ keys) k) (sym same) (first_there first keys)))
      ∙ built_elsewhere keys key (λ there. absent (later_there first key keys there))

-- ---- the keys that a Begin names

unfoldable pub named_key : Note → Option (List ℕ)
named_key (Begin slot key path epoch base changed) = Some key
named_key (Announce slot epoch) = None
named_key (Settle slot epoch span cause) = None
named_key (Rename slot scan path) = None
named_key (Seen slot changed) = None
named_key (Forget slot epoch end) = None

-- a note names the key to a slot exactly if it is a Begin of that slot and key
pub slot_named : (key : List ℕ) (note : Note) (slot : ℕ) → slot_for key note ≡ Some slot → (start : Start) × (start_of note ≡ Some start) × (start.key ≡ key) × (slot_of note ≡ slot)
slot_named key (Begin s named path epoch base changed) slot e = by_case (compare key named) refl e
  where
    by_case : (o : Ordering) → compare key named ≡ o → (if is_eq o then Some s.0 else None) ≡ Some slot → (start : Start) × (Some (record { key = named; path = path; epoch = epoch.0; base = base }) ≡ Some start) × (start.key ≡ key) × (s.0 ≡ slot)
    by_case Equal is e = (record { key = named; path = path; epoch = epoch.0; base = base }, refl, sym (same_key key named is), let q : Some s.0 ≡ Some slot = e in cc)
    by_case Less is e = absurd (let q : None ≡ Some slot = e in cc)
    by_case Greater is e = absurd (let q : None ≡ Some slot = e in cc)
slot_named key (Announce s epoch) slot e = absurd (let q : None ≡ Some slot = e in cc)
slot_named key (Settle s epoch span cause) slot e = absurd (let q : None ≡ Some slot = e in cc)
slot_named key (Rename s scan path) slot e = absurd (let q : None ≡ Some slot = e in cc)
slot_named key (Seen s changed) slot e = absurd (let q : None ≡ Some slot = e in cc)
slot_named key (Forget s epoch end) slot e = absurd (let q : None ≡ Some slot = e in cc)

pub named_slot : (key : List ℕ) (note : Note) → named_key note ≡ Some key → slot_for key note ≡ Some (slot_of note)
unfolding named_key
named_slot key (Begin s named path epoch base changed) e =
    let same : key ≡ named = let q : Some named ≡ Some key = e in cc in
    rw (compare_same key named same) refl
named_slot key (Announce s epoch) e = absurd (let q : None ≡ Some key = e in cc)
named_slot key (Settle s epoch span cause) e = absurd (let q : None ≡ Some key = e in cc)
named_slot key (Rename s scan path) e = absurd (let q : None ≡ Some key = e in cc)
named_slot key (Seen s changed) e = absurd (let q : None ≡ Some key = e in cc)
named_slot key (Forget s epoch end) e = absurd (let q : None ≡ Some key = e in cc)

slot_key : (key : List ℕ) (note : Note) (slot : ℕ) → slot_for key note ≡ Some slot → named_key note ≡ Some key
unfolding named_key
slot_key key (Begin s named path epoch base changed) slot e = by_case (compare key named) refl e
  where
    by_case : (o : Ordering) → compare key named ≡ o → (if is_eq o then Some s.0 else None) ≡ Some slot → Some named ≡ Some key
    by_case Equal is e = ap Some (sym (same_key key named is))
    by_case Less is e = absurd (let q : None ≡ Some slot = e in cc)
    by_case Greater is e = absurd (let q : None ≡ Some slot = e in cc)
slot_key key (Announce s epoch) slot e = absurd (let q : None ≡ Some slot = e in cc)
slot_key key (Settle s epoch span cause) slot e = absurd (let q : None ≡ Some slot = e in cc)
slot_key key (Rename s scan path) slot e = absurd (let q : None ≡ Some slot = e in cc)
slot_key key (Seen s changed) slot e = absurd (let q : None ≡ Some slot = e in cc)
slot_key key (Forget s epoch end) slot e = absurd (let q : None ≡ Some slot = e in cc)

-- ---- a row has its key

find_key : (key : List ℕ) (rows : List Row) (row : Row) → find key rows ≡ Some row → row.key ≡ key
find_key key [] row e = absurd (let q : None ≡ Some row = e in cc)
find_key key (first ∷ rows) row e = by_case (compare key first.key) refl e (find_key key rows row)
  where
    by_case : (o : Ordering) → compare key first.key ≡ o → (if is_eq o then Some first else find key rows) ≡ Some row → (find key rows ≡ Some row → row.key ≡ key) → row.key ≡ key
    by_case Equal is e h = let q : Some first ≡ Some row = e in let same : first ≡ row = cc in sym (ap (λ (r : Row). r.key) same) ∙ sym (same_key key first.key is)
    by_case Less is e h = h e
    by_case Greater is e h = h e

pub greatest_there : (x : ℕ) (xs : List ℕ) → Contains (x ∷ xs) (fold max x xs)
greatest_there x [] = first_there x []
greatest_there x (y ∷ ys) = elim (there_cases (max x y) (fold max (max x y) ys) ys (greatest_there (max x y) ys)) [
  | inl same ↦ by_order (cases_lt x y) same
  | inr later ↦ later_there x (fold max (max x y) ys) (y ∷ ys) (later_there y (fold max (max x y) ys) ys later)
]
  where
    by_order : (x < y) ⊎ (y ≤ x) → max x y ≡ fold max (max x y) ys → Contains (x ∷ y ∷ ys) (fold max (max x y) ys)
    by_order (inl below) same = let is : y ≡ fold max (max x y) ys = omega (arith, same) in subst (Contains (x ∷ y ∷ ys)) is (later_there x y (y ∷ ys) (first_there y ys))
    by_order (inr above) same = let is : x ≡ fold max (max x y) ys = omega (arith, same) in subst (Contains (x ∷ y ∷ ys)) is (first_there x (y ∷ ys))

row_start : (slot : ℕ) (notes : List Note) (row : Row) → row_over slot notes ≡ Some row → (start : Start) × (start_over (notes_of slot notes) ≡ Some start) × (row.key ≡ start.key)
row_start slot notes row e = by_start (start_over (notes_of slot notes)) refl e
  where
    by_gone : (b : Bool) (start : Start) (made : Row) → made.key ≡ start.key → (if b then None else Some made) ≡ Some row → row.key ≡ start.key
    by_gone true start made key e = absurd (let q : None ≡ Some row = e in cc)
    by_gone false start made key e = let q : Some made ≡ Some row = e in let same : made ≡ row = cc in sym (ap (λ (r : Row). r.key) same) ∙ key

    by_start : (s : Option Start) → start_over (notes_of slot notes) ≡ s → option_and_then (row_of (notes_of slot notes)) s ≡ Some row → (start : Start) × (start_over (notes_of slot notes) ≡ Some start) × (row.key ≡ start.key)
    by_start None is e = absurd (let q : None ≡ Some row = e in cc)
    by_start (Some start) is e = (start, is, by_gone (is_gone start (notes_of slot notes)) start _ refl e)

module _ (opening : List Row) (notes : List Note) (orderly : AreOrderly notes) where
  slot_has : (key : List ℕ) (slot : ℕ) (row : Row) → Contains (slots_for key notes) slot → row_over slot notes ≡ Some row → row.key ≡ key
  slot_has key slot row there e =
      let found = there_given (slot_for key) notes slot there in
      let begun = slot_named key found.0 slot found.2 in
      let own = passed_there (λ (note : Note). slot_of note == slot) notes found.0 found.1 (eq-eqb (slot_of found.0) slot begun.3) in
      let here = row_start slot notes row e in
      let same = one_start slot notes orderly here.0 begun.0 (first_member (filter_map start_of (notes_of slot notes)) here.0 here.1) (given_there start_of (notes_of slot notes) found.0 begun.0 own begun.1) in
      here.2 ∙ ap (λ (start : Start). start.key) same ∙ begun.2

  among_has : (key : List ℕ) (slots : List ℕ) → Within slots (slots_for key notes) → HasKey key (row_of_greatest notes slots)
  among_has key [] within row e = absurd (let q : None ≡ Some row = e in cc)
  among_has key (slot ∷ slots) within row e = slot_has key (fold max slot slots) row (within (fold max slot slots) (greatest_there slot slots)) e

  by_slots : (key : List ℕ) (slots : List ℕ) → Within slots (slots_for key notes) → HasKey key (row_among opening notes key slots)
  by_slots key [] within row e = find_key key opening row e
  by_slots key (slot ∷ slots) within row e = among_has key (filter (λ (given : ℕ). is_some (row_over given notes)) (slot ∷ slots)) (λ x there. within x (there_passed (λ (given : ℕ). is_some (row_over given notes)) (slot ∷ slots) x there).0) row e

  pub has_key : (key : List ℕ) → HasKey key (row_for opening notes key)
  has_key key = by_slots key (slots_for key notes) (λ x there. there)

  each_key : (key : List ℕ) (slots : List ℕ) → slots_for key notes ≡ slots → find key (built opening notes (filter_map named_key notes)) ≡ row_for opening notes key
  each_key key [] is =
      built_elsewhere opening notes has_key (filter_map named_key notes) key absent ∙ sym (ap (row_among opening notes key) is)
    where
      absent : Contains (filter_map named_key notes) key → ⊥
      absent there =
          let found = there_given named_key notes key there in
          none_there (slot_of found.0) (subst (λ (l : List ℕ). Contains l (slot_of found.0)) is (given_there (slot_for key) notes found.0 (slot_of found.0) found.1 (named_slot key found.0 found.2)))
  each_key key (slot ∷ slots) is =
      let found = there_given (slot_for key) notes slot (subst (λ (l : List ℕ). Contains l slot) (sym is) (first_there slot slots)) in
      built_here opening notes has_key (filter_map named_key notes) key (given_there named_key notes found.0 key found.1 (slot_key key found.0 slot found.2))

  pub rows_there : IsInOrder opening → (rows : List Row) × AreRowsOver opening notes rows
  rows_there ordered = (built opening notes (filter_map named_key notes), record { in_order = built_in_order opening notes (filter_map named_key notes) ordered; each = λ key. each_key key (slots_for key notes) refl })
