-- Lists of entries in byte order of their keys: edits by key and by place, and what a binary search finds.
use Rattle.std.proofs.Common.{◌≡◌, ◌≢◌, ℕ, zero, suc, ◌<◌, ◌≤◌, Bool, true, false, List, [], ◌∷◌, length, get_or, set, All, Some, None, Result, Ok, Err, IfOk, IfErr, refl, sym, ap, ◌∙◌, subst, inl, inr, if◌then◌else◌, arith}
use Rattle.std.specs.List.{AllByRecursion, insert, remove}
use Rattle.std.specs.List.Sorted.{IsSearchInRange, IsBinarySearchResult, IsNonDecreasingBy}
use Rattle.std.specs.Ordering.{ordering_index, match_ordering, is_eq}
use Rattle.std.specs.declared.cmp.Ordering.{Ordering}
use Rattle.std.specs.declared.cmp.Ordering.TheVariants.{Less, Equal, Greater}
use Rattle.std.proofs.lemmas.Bool.{cases_lt}
use Rattle.std.proofs.lemmas.List.Elements.{All-from_recursion, recursion_from_All}
use Rattle.wire_base.specs.KeyOrder.{compare, IsBefore, IsInOrder, find, with_entry, without_key, IsAt, IsGap}
use Rattle.wire_base.proofs.ByteOrder.{same_key, compare_same, compare_greater, compare_less, compare_trans, compare_rises}

module _ {A : Type 0} (key_of : A → List ℕ) where
  -- if the key is not, nothing goes
  pub without_absent : (key : List ℕ) (entries : List A) → find key_of key entries ≡ None → without_key key_of key entries ≡ entries
  without_absent key [] lacks = refl
  without_absent key (entry ∷ entries) lacks = by_case (is_eq (compare key (key_of entry))) (without_absent key entries) lacks
    where
      by_case : (b : Bool) → (find key_of key entries ≡ None → without_key key_of key entries ≡ entries) → (if b then Some entry else find key_of key entries) ≡ None → (if b then without_key key_of key entries else entry ∷ without_key key_of key entries) ≡ entry ∷ entries
      by_case true h e = absurd (let q : Some entry ≡ None = e in cc)
      by_case false h e = ap (λ t. entry ∷ t) (h e)

  absent_each : (key : List ℕ) (entries : List A) → find key_of key entries ≡ None → AllByRecursion (λ entry. (key_of entry) ≢ key) entries
  absent_each key [] lacks = tt
  absent_each key (entry ∷ entries) lacks = by_case (compare key (key_of entry)) refl (absent_each key entries) lacks
    where
      differs : (o : Ordering) → compare key (key_of entry) ≡ o → o ≢ Equal → (key_of entry) ≢ key
      differs o e other same = other (sym e ∙ compare_same key (key_of entry) (sym same))

      by_case : (o : Ordering) → compare key (key_of entry) ≡ o → (find key_of key entries ≡ None → AllByRecursion (λ entry. (key_of entry) ≢ key) entries) → (if is_eq o then Some entry else find key_of key entries) ≡ None → ((key_of entry) ≢ key) × AllByRecursion (λ entry. (key_of entry) ≢ key) entries
      by_case Less e h lacks = (differs Less e (λ q. cc), h lacks)
      by_case Equal e h lacks = absurd (let q : Some entry ≡ None = lacks in cc)
      by_case Greater e h lacks = (differs Greater e (λ q. cc), h lacks)

  -- a key that is not found is no entry's
  pub absent_everywhere : (key : List ℕ) (entries : List A) → find key_of key entries ≡ None → All (λ entry. (key_of entry) ≢ key) entries
  absent_everywhere key entries lacks = All-from_recursion (λ entry. (key_of entry) ≢ key) entries (absent_each key entries lacks)

  -- ---- the order is kept

  before-with : (first : List ℕ) (entry : A) (entries : List A) → compare first (key_of entry) ≡ Less → IsBefore key_of first entries → IsBefore key_of first (with_entry key_of entry entries)
  before-with first entry [] less before = (less, tt)
  before-with first entry (other ∷ entries) less before = by_case (compare (key_of entry) (key_of other)) (before-with first entry entries less before.1)
    where
      by_case : (o : Ordering) → IsBefore key_of first (with_entry key_of entry entries) → IsBefore key_of first (match_ordering o (entry ∷ other ∷ entries) (entry ∷ entries) (other ∷ with_entry key_of entry entries))
      by_case Less h = (less, before)
      by_case Equal h = (less, before.1)
      by_case Greater h = (before.0, h)

  pub before_lesser : (first key : List ℕ) (entries : List A) → compare first key ≡ Less → IsBefore key_of key entries → IsBefore key_of first entries
  before_lesser first key [] less before = tt
  before_lesser first key (entry ∷ entries) less before = (compare_trans first key (key_of entry) less before.0, before_lesser first key entries less before.1)

  pub in_order-with : (entry : A) (entries : List A) → IsInOrder key_of entries → IsInOrder key_of (with_entry key_of entry entries)
  in_order-with entry [] ordered = (tt, tt)
  in_order-with entry (other ∷ entries) ordered = by_case (compare (key_of entry) (key_of other)) refl (in_order-with entry entries ordered.1)
    where
      by_case : (o : Ordering) → compare (key_of entry) (key_of other) ≡ o → IsInOrder key_of (with_entry key_of entry entries) → IsInOrder key_of (match_ordering o (entry ∷ other ∷ entries) (entry ∷ entries) (other ∷ with_entry key_of entry entries))
      by_case Less e h = ((e, before_lesser (key_of entry) (key_of other) entries e ordered.0), ordered)
      by_case Equal e h = (subst (λ z. IsBefore key_of z entries) (sym (same_key (key_of entry) (key_of other) e)) ordered.0, ordered.1)
      by_case Greater e h = (before-with (key_of other) entry entries (compare_less (key_of entry) (key_of other) e) ordered.0, h)

  before-without : (first key : List ℕ) (entries : List A) → IsBefore key_of first entries → IsBefore key_of first (without_key key_of key entries)
  before-without first key [] before = tt
  before-without first key (entry ∷ entries) before = by_case (is_eq (compare key (key_of entry))) (before-without first key entries before.1)
    where
      by_case : (b : Bool) → IsBefore key_of first (without_key key_of key entries) → IsBefore key_of first (if b then without_key key_of key entries else entry ∷ without_key key_of key entries)
      by_case true h = h
      by_case false h = (before.0, h)

  pub in_order-without : (key : List ℕ) (entries : List A) → IsInOrder key_of entries → IsInOrder key_of (without_key key_of key entries)
  in_order-without key [] ordered = tt
  in_order-without key (entry ∷ entries) ordered = by_case (is_eq (compare key (key_of entry))) (in_order-without key entries ordered.1)
    where
      by_case : (b : Bool) → IsInOrder key_of (without_key key_of key entries) → IsInOrder key_of (if b then without_key key_of key entries else entry ∷ without_key key_of key entries)
      by_case true h = h
      by_case false h = (before-without (key_of entry) key entries ordered.0, h)

  first_below : (first : List ℕ) (entries : List A) (j : ℕ) (d : A) → IsBefore key_of first entries → j < length entries → compare first (key_of (get_or entries j d)) ≡ Less
  first_below first [] j d before inside = absurd (omega arith)
  first_below first (entry ∷ entries) zero d before inside = before.0
  first_below first (entry ∷ entries) (suc j) d before inside = first_below first entries j d before.1 (omega arith)

  keys_rise : (entries : List A) (i j : ℕ) (d : A) → IsInOrder key_of entries → i < j → j < length entries → compare (key_of (get_or entries i d)) (key_of (get_or entries j d)) ≡ Less
  keys_rise [] i j d ordered lt inside = absurd (omega arith)
  keys_rise (entry ∷ entries) i zero d ordered lt inside = absurd (omega arith)
  keys_rise (entry ∷ entries) zero (suc j) d ordered lt inside = first_below (key_of entry) entries j d ordered.0 (omega arith)
  keys_rise (entry ∷ entries) (suc i) (suc j) d ordered lt inside = keys_rise entries i j d ordered.1 (omega arith) (omega arith)

  module _ (entries : List A) (ordered : IsInOrder key_of entries) (key : List ℕ) where
    comparisons_rise : IsNonDecreasingBy (λ entry. ordering_index (compare (key_of entry) key)) entries
    comparisons_rise i j d le inside = elim (cases_lt i j) [
      | inl lt ↦ compare_rises _ _ key (keys_rise entries i j d ordered lt inside)
      | inr ge ↦ let same : i ≡ j = omega arith in subst (λ k. ordering_index (compare (key_of (get_or entries i d)) key) ≤ ordering_index (compare (key_of (get_or entries k d)) key)) same (omega arith)
    ]

    pub found : (r : Result ℕ ℕ) → IsSearchInRange r (length entries) → IsBinarySearchResult (λ entry. compare (key_of entry) key) entries r → IfOk r (IsAt key_of entries key)
    found (Ok i) inside equal = record { in_range = inside; has_key = λ fallback. same_key _ key (equal fallback) }
    found (Err i) inside parted = tt

    pub absent : (r : Result ℕ ℕ) → IsSearchInRange r (length entries) → IsBinarySearchResult (λ entry. compare (key_of entry) key) entries r → IfErr r (IsGap key_of entries key)
    absent (Ok i) inside equal = tt
    absent (Err i) inside parted = record {
      in_range = inside;
      lesser_before = λ j fallback lt. (parted comparisons_rise).0 j fallback (omega arith) lt;
      greater_behind = λ j fallback le lt. compare_less _ key ((parted comparisons_rise).1 j fallback le lt);
    }

  -- ---- at the key's place

  at_tail : {entry : A} (entries : List A) (key : List ℕ) (i : ℕ) → IsAt key_of (entry ∷ entries) key (suc i) → IsAt key_of entries key i
  at_tail entries key i at = record { in_range = omega (arith, at.in_range); has_key = at.has_key }

  -- the key comes after the first of the entries
  behind_first : (entry : A) (entries : List A) (key : List ℕ) (i : ℕ) → IsInOrder key_of (entry ∷ entries) → IsAt key_of entries key i → compare key (key_of entry) ≡ Greater
  behind_first entry entries key i ordered at =
      compare_greater (key_of entry) key (subst (λ z. compare (key_of entry) z ≡ Less) (at.has_key entry) (first_below (key_of entry) entries i entry ordered.0 at.in_range))

  pub find_at : (entries : List A) (key : List ℕ) (i : ℕ) (d : A) → IsInOrder key_of entries → IsAt key_of entries key i → find key_of key entries ≡ Some (get_or entries i d)
  find_at [] key i d ordered at = absurd (omega (arith, at.in_range))
  find_at (entry ∷ entries) key zero d ordered at = rw (compare_same key (key_of entry) (sym (at.has_key entry))) refl
  find_at (entry ∷ entries) key (suc i) d ordered at =
      let tail = at_tail entries key i at in
      rw (behind_first entry entries key i ordered tail) (find_at entries key i d ordered.1 tail)

  pub found_entry : (entries : List A) (key : List ℕ) (i : ℕ) (entry : A) → IsInOrder key_of entries → IsAt key_of entries key i → entry ≡ get_or entries i entry → Some entry ≡ find key_of key entries
  found_entry entries key i entry ordered at is = ap Some is ∙ sym (find_at entries key i entry ordered at)

  pub set_at_place : (entries : List A) (new : A) (i : ℕ) → IsInOrder key_of entries → IsAt key_of entries (key_of new) i → set entries i new ≡ with_entry key_of new entries
  set_at_place [] new i ordered at = absurd (omega (arith, at.in_range))
  set_at_place (entry ∷ entries) new zero ordered at = rw (compare_same (key_of new) (key_of entry) (sym (at.has_key entry))) refl
  set_at_place (entry ∷ entries) new (suc i) ordered at =
      let tail = at_tail entries (key_of new) i at in
      rw (behind_first entry entries (key_of new) i ordered tail) (ap (λ t. entry ∷ t) (set_at_place entries new i ordered.1 tail))

  pub find_before : (key : List ℕ) (entries : List A) → IsBefore key_of key entries → find key_of key entries ≡ None
  find_before key [] before = refl
  find_before key (entry ∷ entries) before = rw before.0 (find_before key entries before.1)

  pub remove_at_place : (entries : List A) (key : List ℕ) (i : ℕ) → IsInOrder key_of entries → IsAt key_of entries key i → remove entries i ≡ without_key key_of key entries
  remove_at_place [] key i ordered at = absurd (omega (arith, at.in_range))
  remove_at_place (entry ∷ entries) key zero ordered at =
      rw (compare_same key (key_of entry) (sym (at.has_key entry))) (sym (without_absent key entries (find_before key entries (subst (λ k. IsBefore key_of k entries) (at.has_key entry) ordered.0))))
  remove_at_place (entry ∷ entries) key (suc i) ordered at =
      let tail = at_tail entries key i at in
      rw (behind_first entry entries key i ordered tail) (ap (λ t. entry ∷ t) (remove_at_place entries key i ordered.1 tail))

  -- ---- where the key belongs

  gap_tail : {entry : A} (entries : List A) (key : List ℕ) (i : ℕ) → IsGap key_of (entry ∷ entries) key (suc i) → IsGap key_of entries key i
  gap_tail entries key i gap = record {
    in_range = omega (arith, gap.in_range);
    lesser_before = λ j fallback lt. gap.lesser_before (suc j) fallback (omega arith);
    greater_behind = λ j fallback le lt. gap.greater_behind (suc j) fallback (omega arith) (omega arith);
  }

  gap_front : {entry : A} (entries : List A) (key : List ℕ) → IsGap key_of (entry ∷ entries) key zero → IsGap key_of entries key zero
  gap_front entries key gap = record {
    in_range = omega arith;
    lesser_before = λ j fallback lt. absurd (omega arith);
    greater_behind = λ j fallback le lt. gap.greater_behind (suc j) fallback (omega arith) (omega arith);
  }

  pub find_gap : (entries : List A) (key : List ℕ) (i : ℕ) → IsGap key_of entries key i → find key_of key entries ≡ None
  find_gap [] key i gap = refl
  find_gap (entry ∷ entries) key zero gap = rw (gap.greater_behind 0 entry (omega arith) (omega arith)) (find_gap entries key zero (gap_front entries key gap))
  find_gap (entry ∷ entries) key (suc i) gap = rw (compare_greater (key_of entry) key (gap.lesser_before 0 entry (omega arith))) (find_gap entries key i (gap_tail entries key i gap))

  pub insert_in_gap : (entries : List A) (new : A) (i : ℕ) → IsGap key_of entries (key_of new) i → insert entries i new ≡ with_entry key_of new entries
  insert_in_gap [] new zero gap = refl
  insert_in_gap [] new (suc i) gap = refl
  insert_in_gap (entry ∷ entries) new zero gap = rw (gap.greater_behind 0 entry (omega arith) (omega arith)) refl
  insert_in_gap (entry ∷ entries) new (suc i) gap =
      rw (compare_greater (key_of entry) (key_of new) (gap.lesser_before 0 entry (omega arith))) (ap (λ t. entry ∷ t) (insert_in_gap entries new i (gap_tail entries (key_of new) i gap)))

  -- ---- after an edit

  pub find-with : (entry : A) (entries : List A) → find key_of (key_of entry) (with_entry key_of entry entries) ≡ Some entry
  find-with entry [] = rw (compare_same (key_of entry) (key_of entry) refl) refl
  find-with entry (other ∷ entries) = by_case (compare (key_of entry) (key_of other)) refl (find-with entry entries)
    where
      by_case : (o : Ordering) → compare (key_of entry) (key_of other) ≡ o → find key_of (key_of entry) (with_entry key_of entry entries) ≡ Some entry → find key_of (key_of entry) (match_ordering o (entry ∷ other ∷ entries) (entry ∷ entries) (other ∷ with_entry key_of entry entries)) ≡ Some entry
      by_case Less e h = rw (compare_same (key_of entry) (key_of entry) refl) refl
      by_case Equal e h = rw (compare_same (key_of entry) (key_of entry) refl) refl
      by_case Greater e h = rw e h

  differs_by : (key other : List ℕ) → other ≢ key → is_eq (compare other key) ≡ false
  differs_by key other differs = by_case (compare other key) refl
    where
      by_case : (o : Ordering) → compare other key ≡ o → is_eq o ≡ false
      by_case Less e = refl
      by_case Equal e = absurd (differs (same_key other key e))
      by_case Greater e = refl

  find-with_other : (entry : A) (entries : List A) (key : List ℕ) → is_eq (compare key (key_of entry)) ≡ false → find key_of key (with_entry key_of entry entries) ≡ find key_of key entries
  find-with_other entry [] key differs = rw differs refl
  find-with_other entry (other ∷ entries) key differs = by_case (compare (key_of entry) (key_of other)) refl (find-with_other entry entries key differs)
    where
      by_case : (o : Ordering) → compare (key_of entry) (key_of other) ≡ o → find key_of key (with_entry key_of entry entries) ≡ find key_of key entries → find key_of key (match_ordering o (entry ∷ other ∷ entries) (entry ∷ entries) (other ∷ with_entry key_of entry entries)) ≡ find key_of key (other ∷ entries)
      by_case Less e h = rw differs refl
      by_case Equal e h = rw (differs, ← same_key (key_of entry) (key_of other) e, differs) refl
      by_case Greater e h = rw h refl

  pub find-with_not : (entry : A) (entries : List A) (key : List ℕ) → key ≢ (key_of entry) → find key_of key (with_entry key_of entry entries) ≡ find key_of key entries
  find-with_not entry entries key differs = find-with_other entry entries key (differs_by (key_of entry) key differs)

  pub find-without : (key : List ℕ) (entries : List A) → find key_of key (without_key key_of key entries) ≡ None
  find-without key [] = refl
  find-without key (entry ∷ entries) = by_case (is_eq (compare key (key_of entry))) refl (find-without key entries)
    where
      by_case : (b : Bool) → is_eq (compare key (key_of entry)) ≡ b → find key_of key (without_key key_of key entries) ≡ None → find key_of key (if b then without_key key_of key entries else entry ∷ without_key key_of key entries) ≡ None
      by_case true e h = h
      by_case false e h = rw e h

  pub find-without_not : (key other : List ℕ) (entries : List A) → other ≢ key → find key_of other (without_key key_of key entries) ≡ find key_of other entries
  find-without_not key other [] differs = refl
  find-without_not key other (entry ∷ entries) differs = by_case (compare key (key_of entry)) refl (find-without_not key other entries differs)
    where
      by_case : (o : Ordering) → compare key (key_of entry) ≡ o → find key_of other (without_key key_of key entries) ≡ find key_of other entries → find key_of other (if is_eq o then without_key key_of key entries else entry ∷ without_key key_of key entries) ≡ find key_of other (entry ∷ entries)
      by_case Less e h = rw h refl
      by_case Equal e h = rw (h, ← same_key key (key_of entry) e, differs_by key other differs) refl
      by_case Greater e h = rw h refl

  -- ---- by what each key has

  find_first : (entry : A) (entries : List A) → find key_of (key_of entry) (entry ∷ entries) ≡ Some entry
  find_first entry entries = rw (compare_same (key_of entry) (key_of entry) refl) refl

  -- a key before all of them has none
  find_less : (key : List ℕ) (entry : A) (entries : List A) → compare key (key_of entry) ≡ Less → IsInOrder key_of (entry ∷ entries) → find key_of key (entry ∷ entries) ≡ None
  find_less key entry entries less ordered = rw less (find_before key entries (before_lesser key (key_of entry) entries less ordered.0))

  -- after a first entry of one key, what each key has is the same
  same_later : (a b : A) (entries others : List A) → (key_of a) ≡ (key_of b) → IsBefore key_of (key_of a) entries → IsBefore key_of (key_of b) others → ((key : List ℕ) → find key_of key (a ∷ entries) ≡ find key_of key (b ∷ others)) → (key : List ℕ) → find key_of key entries ≡ find key_of key others
  same_later a b entries others keys one two same key = by_key (compare key (key_of a)) refl
    where
      by_key : (o : Ordering) → compare key (key_of a) ≡ o → find key_of key entries ≡ find key_of key others
      by_key Less is =
          let left : find key_of key (a ∷ entries) ≡ find key_of key entries = rw is refl in
          let right : find key_of key (b ∷ others) ≡ find key_of key others = rw (ap (compare key) (sym keys) ∙ is) refl in
          sym left ∙ same key ∙ right
      by_key Greater is =
          let left : find key_of key (a ∷ entries) ≡ find key_of key entries = rw is refl in
          let right : find key_of key (b ∷ others) ≡ find key_of key others = rw (ap (compare key) (sym keys) ∙ is) refl in
          sym left ∙ same key ∙ right
      by_key Equal is =
          let at_a : (key_of a) ≡ key = sym (same_key key (key_of a) is) in
          find_before key entries (subst (λ (k : List ℕ). IsBefore key_of k entries) at_a one)
          ∙ sym (find_before key others (subst (λ (k : List ℕ). IsBefore key_of k others) (sym keys ∙ at_a) two))

  pub same_entries : (first second : List A) → IsInOrder key_of first → IsInOrder key_of second → ((key : List ℕ) → find key_of key first ≡ find key_of key second) → first ≡ second
  same_entries [] [] one two same = refl
  same_entries [] (entry ∷ entries) one two same = absurd (let q : None ≡ Some entry = same (key_of entry) ∙ find_first entry entries in cc)
  same_entries (entry ∷ entries) [] one two same = absurd (let q : Some entry ≡ None = sym (find_first entry entries) ∙ same (key_of entry) in cc)
  same_entries (a ∷ entries) (b ∷ others) one two same = by_order (compare (key_of a) (key_of b)) refl (same_entries entries others one.1 two.1)
    where
      by_order : (o : Ordering) → compare (key_of a) (key_of b) ≡ o → (((key : List ℕ) → find key_of key entries ≡ find key_of key others) → entries ≡ others) → a ∷ entries ≡ b ∷ others
      by_order Less e h = absurd (let q : Some a ≡ None = sym (find_first a entries) ∙ same (key_of a) ∙ find_less (key_of a) b others e two in cc)
      by_order Greater e h = absurd (let q : None ≡ Some b = sym (find_less (key_of b) a entries (compare_less (key_of a) (key_of b) e) one) ∙ same (key_of b) ∙ find_first b others in cc)
      by_order Equal e h =
          let keys : (key_of a) ≡ (key_of b) = same_key (key_of a) (key_of b) e in
          let firsts : a ≡ b = let q : Some a ≡ Some b = sym (find_first a entries) ∙ same (key_of a) ∙ ap (λ (k : List ℕ). find key_of k (b ∷ others)) keys ∙ find_first b others in cc in
          let later : entries ≡ others = h (same_later a b entries others keys one.0 two.0 same) in
          λ k. firsts k ∷ later k

  -- ---- what holds of each entry

  each_with : (P : A → Type 0) (entry : A) (entries : List A) → P entry → AllByRecursion P entries → AllByRecursion P (with_entry key_of entry entries)
  each_with P entry [] one all = (one, tt)
  each_with P entry (other ∷ entries) one all = by_case (compare (key_of entry) (key_of other)) (each_with P entry entries one all.1)
    where
      by_case : (o : Ordering) → AllByRecursion P (with_entry key_of entry entries) → AllByRecursion P (match_ordering o (entry ∷ other ∷ entries) (entry ∷ entries) (other ∷ with_entry key_of entry entries))
      by_case Less h = (one, all)
      by_case Equal h = (one, all.1)
      by_case Greater h = (all.0, h)

  each_without : (P : A → Type 0) (key : List ℕ) (entries : List A) → AllByRecursion P entries → AllByRecursion P (without_key key_of key entries)
  each_without P key [] all = tt
  each_without P key (entry ∷ entries) all = by_case (is_eq (compare key (key_of entry))) (each_without P key entries all.1)
    where
      by_case : (b : Bool) → AllByRecursion P (without_key key_of key entries) → AllByRecursion P (if b then without_key key_of key entries else entry ∷ without_key key_of key entries)
      by_case true h = h
      by_case false h = (all.0, h)

  pub All-with : (P : A → Type 0) (entry : A) (entries : List A) → P entry → All P entries → All P (with_entry key_of entry entries)
  All-with P entry entries one all = All-from_recursion P (with_entry key_of entry entries) (each_with P entry entries one (recursion_from_All P entries all))

  pub All-without : (P : A → Type 0) (key : List ℕ) (entries : List A) → All P entries → All P (without_key key_of key entries)
  All-without P key entries all = All-from_recursion P (without_key key_of key entries) (each_without P key entries (recursion_from_All P entries all))
