-- What leads from rows to others, key by key.
use Rattle.std.proofs.Common.{◌≡◌, ◌≢◌, ◌⊎◌, inl, inr, ℕ, Bool, true, false, List, [], ◌∷◌, All, Contains, get_or, set, Option, Some, None, IfSome, if◌then◌else◌, ◌==◌, ◌&&◌, refl, sym, ap, ◌∙◌, subst, arith}
use Rattle.std.specs.List.{filter_map, cons_option, insert, remove, AllByRecursion}
use Rattle.std.specs.Ordering.{is_eq}
use Rattle.std.specs.Str.{bytes_eq}
use Rattle.std.specs.declared.cmp.Ordering.{Ordering}
use Rattle.std.specs.declared.cmp.Ordering.TheVariants.{Less, Equal, Greater}
use Rattle.std.proofs.lemmas.Bool.{and_from, eq-eqb, eqb-true}
use Rattle.std.proofs.lemmas.List.Elements.{All-from_recursion, All-contains, Contains-get_or}
use Rattle.std.proofs.lemmas.Slice.Eq.{bytes_eq-Decides}
use Rattle.wire_base.proofs.ByteOrder.{same_key, compare_greater, compare_same}
use Rattle.wire_base.proofs.Keyed.{find-with, find-with_not, find-without, find-without_not, find_before, find_gap, in_order-with, in_order-without, insert_in_gap, remove_at_place, set_at_place, same_entries, without_absent, All-with, All-without}
use Rattle.wire_base.specs.Ranges.{IsOp}
use Rattle.wire_base.specs.KeyOrder as entries
use Rattle.wire_base.specs.KeyOrder.{compare}
use Rattle.wire_base.specs.declared.row.Row.{Row}
use Rattle.wire_base.specs.declared.row.Op.{Op}
use Rattle.wire_base.specs.declared.row.Op.TheVariants.{Set, Remove}
use Rattle.ship_core.specs.Rows.{key_of, IsInOrder, find}
use Rattle.ship_core.specs.Replay.{after_op, replay_on}
use Rattle.ship_core.specs.Changes.{key_in, AreAscending, AreKeysAscending, LeadTo, same_row, is_same, op_for, change_of, changes_at}
use Rattle.ship_core.specs.Machine.{with_change}
use Rattle.ship_core.proofs.Built.{HasKey}
use Rattle.ship_core.proofs.Applied.{in_order-op}
use Rattle.ship_core.proofs.Members.{none_there, first_there, later_there, there_cases}

-- ---- the same row

all_five : (a b c d e : Bool) → (a && (b && (c && (d && e)))) ≡ true → (a ≡ true) × (b ≡ true) × (c ≡ true) × (d ≡ true) × (e ≡ true)
all_five false b c d e h = absurd (let q : false ≡ true = h in cc)
all_five true false c d e h = absurd (let q : false ≡ true = h in cc)
all_five true true false d e h = absurd (let q : false ≡ true = h in cc)
all_five true true true false e h = absurd (let q : false ≡ true = h in cc)
all_five true true true true e h = (refl, refl, refl, refl, h)

same_row_true : (a b : Row) → same_row a b ≡ true → a ≡ b
same_row_true a b e =
    let parts = all_five (bytes_eq a.key b.key) (bytes_eq a.path b.path) (a.epoch.0 == b.epoch.0) (a.offset == b.offset) (a.changed.0 == b.changed.0) e in
    let key : a.key ≡ b.key = (bytes_eq-Decides a.key b.key).0 parts.0 in
    let path : a.path ≡ b.path = (bytes_eq-Decides a.path b.path).0 parts.1 in
    let epoch : a.epoch.0 ≡ b.epoch.0 = eqb-true a.epoch.0 b.epoch.0 parts.2 in
    let offset : a.offset ≡ b.offset = eqb-true a.offset b.offset parts.3 in
    let changed : a.changed.0 ≡ b.changed.0 = eqb-true a.changed.0 b.changed.0 parts.4 in
    λ k. record { key = key k; path = path k; epoch = record { 0 = epoch k }; offset = offset k; changed = record { 0 = changed k } }

same_row_itself : (a : Row) → same_row a a ≡ true
same_row_itself a =
    let offset = and_from (a.offset == a.offset) (a.changed.0 == a.changed.0) (eq-eqb a.offset a.offset refl) (eq-eqb a.changed.0 a.changed.0 refl) in
    let epoch = and_from (a.epoch.0 == a.epoch.0) ((a.offset == a.offset) && (a.changed.0 == a.changed.0)) (eq-eqb a.epoch.0 a.epoch.0 refl) offset in
    let path = and_from (bytes_eq a.path a.path) ((a.epoch.0 == a.epoch.0) && ((a.offset == a.offset) && (a.changed.0 == a.changed.0))) ((bytes_eq-Decides a.path a.path).1 refl) epoch in
    and_from (bytes_eq a.key a.key) (bytes_eq a.path a.path && ((a.epoch.0 == a.epoch.0) && ((a.offset == a.offset) && (a.changed.0 == a.changed.0)))) ((bytes_eq-Decides a.key a.key).1 refl) path

same_true : (was now : Option Row) → is_same was now ≡ true → was ≡ now
same_true None None e = refl
same_true None (Some row) e = absurd (let q : false ≡ true = e in cc)
same_true (Some row) None e = absurd (let q : false ≡ true = e in cc)
same_true (Some row) (Some other) e = ap Some (same_row_true row other e)

same_itself : (row : Option Row) → is_same row row ≡ true
same_itself None = refl
same_itself (Some row) = same_row_itself row

-- ---- one change

pub unchanged : (key : List ℕ) (was now : Option Row) → change_of key was now ≡ None → was ≡ now
unchanged key was now e = by_case (is_same was now) refl e
  where
    by_case : (b : Bool) → is_same was now ≡ b → (if b then None else Some (op_for key now)) ≡ None → was ≡ now
    by_case true is e = same_true was now is
    by_case false is e = absurd (let q : Some (op_for key now) ≡ None = e in cc)

pub changed : (key : List ℕ) (was now : Option Row) (op : Op) → change_of key was now ≡ Some op → (was ≢ now) × (op ≡ op_for key now)
changed key was now op e = by_case (is_same was now) refl e
  where
    by_case : (b : Bool) → is_same was now ≡ b → (if b then None else Some (op_for key now)) ≡ Some op → (was ≢ now) × (op ≡ op_for key now)
    by_case true is e = absurd (let q : None ≡ Some op = e in cc)
    by_case false is e =
        (λ same. let q : false ≡ true = sym is ∙ ap (λ (o : Option Row). is_same o now) same ∙ same_itself now in cc, let q : Some (op_for key now) ≡ Some op = e in cc)

pub no_change : (key : List ℕ) (was now : Option Row) → was ≡ now → change_of key was now ≡ None
no_change key was now same = ap (λ (b : Bool). if b then None else Some (op_for key now)) (ap (λ (o : Option Row). is_same o now) same ∙ same_itself now)

a_change : (key : List ℕ) (was now : Option Row) → was ≢ now → change_of key was now ≡ Some (op_for key now)
a_change key was now differs = by_case (is_same was now) refl
  where
    by_case : (b : Bool) → is_same was now ≡ b → (if b then None else Some (op_for key now)) ≡ Some (op_for key now)
    by_case true is = absurd (differs (same_true was now is))
    by_case false is = refl

-- the row that an operation leaves to its key
row_in : Op → Option Row
row_in (Set row) = Some row
row_in (Remove key) = None

op_in : (op : Op) → op_for (key_in op) (row_in op) ≡ op
unfolding row_in
op_in (Set row) = refl
op_in (Remove key) = refl

op_here : (op : Op) (rows : List Row) → find (key_in op) (after_op rows op) ≡ row_in op
unfolding row_in
op_here (Set row) rows = find-with key_of row rows
op_here (Remove key) rows = find-without key_of key rows

op_others : (op : Op) (rows : List Row) (key : List ℕ) → key ≢ key_in op → find key (after_op rows op) ≡ find key rows
op_others (Set row) rows key differs = find-with_not key_of row rows key differs
op_others (Remove other) rows key differs = find-without_not key_of other key rows differs

-- what is found has its key, and is there
module _ {A : Type 0} (own : A → List ℕ) where
  pub found_key : (key : List ℕ) (all : List A) (one : A) → entries.find own key all ≡ Some one → own one ≡ key
  found_key key [] one e = absurd (let q : None ≡ Some one = e in cc)
  found_key key (first ∷ all) one e = by_case (compare key (own first)) refl e (found_key key all one)
    where
      by_case : (o : Ordering) → compare key (own first) ≡ o → (if is_eq o then Some first else entries.find own key all) ≡ Some one → (entries.find own key all ≡ Some one → own one ≡ key) → own one ≡ key
      by_case Equal is e h = let q : Some first ≡ Some one = e in let same : first ≡ one = cc in sym (ap own same) ∙ sym (same_key key (own first) is)
      by_case Less is e h = h e
      by_case Greater is e h = h e

  pub found_there : (key : List ℕ) (all : List A) (one : A) → entries.find own key all ≡ Some one → Contains all one
  found_there key [] one e = absurd (let q : None ≡ Some one = e in cc)
  found_there key (first ∷ all) one e = by_case (is_eq (compare key (own first))) e (found_there key all one)
    where
      by_case : (b : Bool) → (if b then Some first else entries.find own key all) ≡ Some one → (entries.find own key all ≡ Some one → Contains all one) → Contains (first ∷ all) one
      by_case true e h = let q : Some first ≡ Some one = e in let same : first ≡ one = cc in subst (λ (z : A). Contains (first ∷ all) z) same (first_there first all)
      by_case false e h = later_there first one all (h e)

pub in_order-replay : (rows : List Row) (ops : List Op) → IsInOrder rows → IsInOrder (replay_on rows ops)
in_order-replay rows [] ordered = ordered
in_order-replay rows (op ∷ ops) ordered = in_order-replay (after_op rows op) ops (in_order-op rows op ordered)

-- ---- the changes of keys

module _ (from to : List Row) where
  abbrev change_at : List ℕ → Option Op
  change_at key = change_of key (find key from) (find key to)

  -- the change leaves its key the row that it has in the others
  changed_here : (key : List ℕ) (op : Op) (rows : List Row) → change_at key ≡ Some op → find key (after_op rows op) ≡ find key to
  unfolding row_in
  changed_here key op rows is = by_row (find key to) refl (changed key (find key from) (find key to) op is).1
    where
      by_row : (o : Option Row) → find key to ≡ o → op ≡ op_for key o → find key (after_op rows op) ≡ o
      by_row None e told = subst (λ (p : Op). find key (after_op rows p) ≡ None) (sym told) (op_here (Remove key) rows)
      by_row (Some row) e told =
          subst (λ (p : Op). find key (after_op rows p) ≡ Some row) (sym told)
          (subst (λ (k : List ℕ). find k (after_op rows (Set row)) ≡ Some row) (found_key key_of key to row e) (op_here (Set row) rows))

  changed_key : (key : List ℕ) (op : Op) → change_at key ≡ Some op → key_in op ≡ key
  changed_key key op is = by_row (find key to) refl (changed key (find key from) (find key to) op is).1
    where
      by_row : (o : Option Row) → find key to ≡ o → op ≡ op_for key o → key_in op ≡ key
      by_row None e told = ap key_in told
      by_row (Some row) e told = ap key_in told ∙ found_key key_of key to row e

  -- a key that has its row keeps it
  settled : (key : List ℕ) (keys : List (List ℕ)) (rows : List Row) → find key rows ≡ find key to → find key (replay_on rows (filter_map change_at keys)) ≡ find key to
  settled key [] rows e = e
  settled key (other ∷ keys) rows e = by_case (change_at other) refl (settled key keys)
    where
      by_order : (op : Op) → change_at other ≡ Some op → (o : Ordering) → compare key other ≡ o → find key (after_op rows op) ≡ find key to
      by_order op is Equal at = let same : key ≡ other = same_key key other at in subst (λ (k : List ℕ). find k (after_op rows op) ≡ find k to) (sym same) (changed_here other op rows is)
      by_order op is Less at = op_others op rows key (λ same. let q : Less ≡ Equal = sym at ∙ compare_same key other (same ∙ changed_key other op is) in cc) ∙ e
      by_order op is Greater at = op_others op rows key (λ same. let q : Greater ≡ Equal = sym at ∙ compare_same key other (same ∙ changed_key other op is) in cc) ∙ e

      by_case : (o : Option Op) → change_at other ≡ o → ((rows : List Row) → find key rows ≡ find key to → find key (replay_on rows (filter_map change_at keys)) ≡ find key to) → find key (replay_on rows (cons_option o (filter_map change_at keys))) ≡ find key to
      by_case None is rest = rest rows e
      by_case (Some op) is rest = rest (after_op rows op) (by_order op is (compare key other) refl)

  -- and each key comes to its row, if those without a change have it
  reached : (key : List ℕ) (keys : List (List ℕ)) (rows : List Row) → find key rows ≡ find key from → ((Contains keys key → ⊥) → find key from ≡ find key to) → find key (replay_on rows (filter_map change_at keys)) ≡ find key to
  reached key [] rows e other = e ∙ other (none_there key)
  reached key (first ∷ keys) rows e other = by_order (compare key first) refl (reached key keys)
    where
      here : key ≡ first → (o : Option Op) → change_at first ≡ o → find key (replay_on rows (cons_option o (filter_map change_at keys))) ≡ find key to
      here same None is = settled key keys rows (e ∙ subst (λ (k : List ℕ). find k from ≡ find k to) (sym same) (unchanged first (find first from) (find first to) is))
      here same (Some op) is = settled key keys (after_op rows op) (subst (λ (k : List ℕ). find k (after_op rows op) ≡ find k to) (sym same) (changed_here first op rows is))

      elsewhere : key ≢ first → ((rows : List Row) → find key rows ≡ find key from → ((Contains keys key → ⊥) → find key from ≡ find key to) → find key (replay_on rows (filter_map change_at keys)) ≡ find key to) → (o : Option Op) → change_at first ≡ o → find key (replay_on rows (cons_option o (filter_map change_at keys))) ≡ find key to
      elsewhere differs rest o is = by_case o is
        where
          absent : (Contains keys key → ⊥) → find key from ≡ find key to
          absent none = other (λ there. elim (there_cases first key keys there) [ inl same ↦ differs (sym same) | inr later ↦ none later ])

          by_case : (o : Option Op) → change_at first ≡ o → find key (replay_on rows (cons_option o (filter_map change_at keys))) ≡ find key to
          by_case None is = rest rows e absent
          by_case (Some op) is = rest (after_op rows op) (op_others op rows key (λ same. differs (same ∙ changed_key first op is)) ∙ e) absent

      by_order : (o : Ordering) → compare key first ≡ o → ((rows : List Row) → find key rows ≡ find key from → ((Contains keys key → ⊥) → find key from ≡ find key to) → find key (replay_on rows (filter_map change_at keys)) ≡ find key to) → find key (replay_on rows (cons_option (change_at first) (filter_map change_at keys))) ≡ find key to
      by_order Equal at rest = here (same_key key first at) (change_at first) refl
      by_order Less at rest = elsewhere (λ same. let q : Less ≡ Equal = sym at ∙ compare_same key first same in cc) rest (change_at first) refl
      by_order Greater at rest = elsewhere (λ same. let q : Greater ≡ Equal = sym at ∙ compare_same key first same in cc) rest (change_at first) refl

  before_changes : (first : List ℕ) (keys : List (List ℕ)) → entries.IsBefore (λ (key : List ℕ). key) first keys → entries.IsBefore key_in first (filter_map change_at keys)
  before_changes first [] before = tt
  before_changes first (key ∷ keys) before = by_case (change_at key) refl (before_changes first keys before.1)
    where
      by_case : (o : Option Op) → change_at key ≡ o → entries.IsBefore key_in first (filter_map change_at keys) → entries.IsBefore key_in first (cons_option o (filter_map change_at keys))
      by_case None is rest = rest
      by_case (Some op) is rest = (subst (λ (k : List ℕ). compare first k ≡ Less) (sym (changed_key key op is)) before.0, rest)

  changes_ascend : (keys : List (List ℕ)) → AreKeysAscending keys → AreAscending (filter_map change_at keys)
  changes_ascend [] ordered = tt
  changes_ascend (key ∷ keys) ordered = by_case (change_at key) refl (changes_ascend keys ordered.1)
    where
      by_case : (o : Option Op) → change_at key ≡ o → AreAscending (filter_map change_at keys) → AreAscending (cons_option o (filter_map change_at keys))
      by_case None is rest = rest
      by_case (Some op) is rest = (subst (λ (k : List ℕ). entries.IsBefore key_in k (filter_map change_at keys)) (sym (changed_key key op is)) (before_changes key keys ordered.0), rest)

  each_changes : (keys : List (List ℕ)) → AllByRecursion (λ (op : Op). find (key_in op) from ≢ find (key_in op) to) (filter_map change_at keys)
  each_changes [] = tt
  each_changes (key ∷ keys) = by_case (change_at key) refl (each_changes keys)
    where
      by_case : (o : Option Op) → change_at key ≡ o → AllByRecursion (λ (op : Op). find (key_in op) from ≢ find (key_in op) to) (filter_map change_at keys) → AllByRecursion (λ (op : Op). find (key_in op) from ≢ find (key_in op) to) (cons_option o (filter_map change_at keys))
      by_case None is rest = rest
      by_case (Some op) is rest =
          (subst (λ (k : List ℕ). find k from ≢ find k to) (sym (changed_key key op is)) (changed key (find key from) (find key to) op is).0, rest)

  pub changes_lead : (keys : List (List ℕ)) → IsInOrder from → IsInOrder to → AreKeysAscending keys → ((key : List ℕ) → (Contains keys key → ⊥) → find key from ≡ find key to) → LeadTo from to (changes_at keys from to)
  changes_lead keys ordered others_ordered ascending other = record {
    ascending = changes_ascend keys ascending;
    replayed = same_entries key_of (replay_on from (changes_at keys from to)) to (in_order-replay from (changes_at keys from to) ordered) others_ordered (λ key. reached key keys from refl (other key));
    changing = All-from_recursion (λ (op : Op). find (key_in op) from ≢ find (key_in op) to) (changes_at keys from to) (each_changes keys);
  }

-- ---- there is no other list of them

after : Option Op → Option Row → Option Row
after None was = was
after (Some op) was = row_in op

effect : (ops : List Op) (rows : List Row) (key : List ℕ) → AreAscending ops → find key (replay_on rows ops) ≡ after (entries.find key_in key ops) (find key rows)
unfolding after
effect [] rows key ascending = refl
effect (op ∷ ops) rows key ascending = by_order (compare key (key_in op)) refl (effect ops (after_op rows op) key ascending.1)
  where
    elsewhere : key ≢ key_in op → find key (replay_on (after_op rows op) ops) ≡ after (entries.find key_in key ops) (find key (after_op rows op)) → find key (replay_on (after_op rows op) ops) ≡ after (entries.find key_in key ops) (find key rows)
    elsewhere differs rest = rest ∙ ap (after (entries.find key_in key ops)) (op_others op rows key differs)

    by_order : (o : Ordering) → compare key (key_in op) ≡ o → find key (replay_on (after_op rows op) ops) ≡ after (entries.find key_in key ops) (find key (after_op rows op)) → find key (replay_on (after_op rows op) ops) ≡ after (if is_eq o then Some op else entries.find key_in key ops) (find key rows)
    by_order Equal at rest =
        let same : key ≡ key_in op = same_key key (key_in op) at in
        let none = find_before key_in key ops (subst (λ (k : List ℕ). entries.IsBefore key_in k ops) (sym same) ascending.0) in
        rest ∙ ap (λ (o : Option Op). after o (find key (after_op rows op))) none ∙ subst (λ (k : List ℕ). find k (after_op rows op) ≡ row_in op) (sym same) (op_here op rows)
    by_order Less at rest = elsewhere (λ same. let q : Less ≡ Equal = sym at ∙ compare_same key (key_in op) same in cc) rest
    by_order Greater at rest = elsewhere (λ same. let q : Greater ≡ Equal = sym at ∙ compare_same key (key_in op) same in cc) rest

pub told_by_key : (from to : List Row) (ops : List Op) → LeadTo from to ops → (key : List ℕ) → entries.find key_in key ops ≡ change_of key (find key from) (find key to)
unfolding after
told_by_key from to ops lead key = by_case (entries.find key_in key ops) refl
  where
    comes : (o : Option Op) → entries.find key_in key ops ≡ o → find key to ≡ after o (find key from)
    comes o is = ap (find key) (sym lead.replayed) ∙ effect ops from key lead.ascending ∙ ap (λ (p : Option Op). after p (find key from)) is

    by_case : (o : Option Op) → entries.find key_in key ops ≡ o → o ≡ change_of key (find key from) (find key to)
    by_case None is = sym (no_change key (find key from) (find key to) (sym (comes None is)))
    by_case (Some op) is =
        let own : key_in op ≡ key = found_key key_in key ops op is in
        let there = found_there key_in key ops op is in
        let differs = All-contains (λ (p : Op). find (key_in p) from ≢ find (key_in p) to) ops op lead.changing there in
        let here = subst (λ (k : List ℕ). find k from ≢ find k to) own differs in
        let row : find key to ≡ row_in op = comes (Some op) is in
        sym (a_change key (find key from) (find key to) here ∙ ap Some (ap (op_for key) row ∙ ap (λ (k : List ℕ). op_for k (row_in op)) (sym own) ∙ op_in op))

pub no_other : (from to : List Row) (first second : List Op) → LeadTo from to first → LeadTo from to second → first ≡ second
no_other from to first second one other =
    same_entries key_in first second one.ascending other.ascending (λ key. told_by_key from to first one key ∙ sym (told_by_key from to second other key))

pub key_cases : (a b : List ℕ) → (a ≡ b) ⊎ (a ≡ b → ⊥)
key_cases a b = by_case (compare a b) refl
  where
    by_case : (o : Ordering) → compare a b ≡ o → (a ≡ b) ⊎ (a ≡ b → ⊥)
    by_case Equal e = inl (same_key a b e)
    by_case Less e = inr (λ same. let q : Less ≡ Equal = sym e ∙ compare_same a b same in cc)
    by_case Greater e = inr (λ same. let q : Greater ≡ Equal = sym e ∙ compare_same a b same in cc)

-- ---- rows that come by their changes

row_for_op : (key : List ℕ) (row : Option Row) → row_in (op_for key row) ≡ row
unfolding row_in
row_for_op key None = refl
row_for_op key (Some row) = refl

after_change : (key : List ℕ) (was now : Option Row) → after (change_of key was now) was ≡ now
unfolding after
after_change key was now = by_case (change_of key was now) refl
  where
    by_case : (o : Option Op) → change_of key was now ≡ o → after o was ≡ now
    by_case None is = unchanged key was now is
    by_case (Some op) is = ap row_in (changed key was now op is).1 ∙ row_for_op key now

pub found_member : (op : Op) (ops : List Op) → AreAscending ops → Contains ops op → entries.find key_in (key_in op) ops ≡ Some op
found_member op [] ascending there = absurd (none_there op there)
found_member op (first ∷ ops) ascending there = by_case (there_cases first op ops there) (found_member op ops ascending.1)
  where
    behind : (ops : List Op) → entries.IsBefore key_in (key_in first) ops → Contains ops op → compare (key_in op) (key_in first) ≡ Greater
    behind [] before there = absurd (none_there op there)
    behind (next ∷ ops) before there = elim (there_cases next op ops there) [
      | inl same ↦ compare_greater (key_in first) (key_in op) (subst (λ (p : Op). compare (key_in first) (key_in p) ≡ Less) same before.0)
      | inr later ↦ behind ops before.1 later
    ]

    by_case : (first ≡ op) ⊎ Contains ops op → (Contains ops op → entries.find key_in (key_in op) ops ≡ Some op) → (if is_eq (compare (key_in op) (key_in first)) then Some first else entries.find key_in (key_in op) ops) ≡ Some op
    by_case (inl same) rest = rw (compare_same (key_in op) (key_in first) (ap key_in (sym same))) (ap Some same)
    by_case (inr later) rest = rw (behind ops ascending.0 later) (rest later)

-- what reports each key's change leads there
pub leads_by_told : (from to : List Row) (ops : List Op) → IsInOrder from → IsInOrder to → AreAscending ops → ((key : List ℕ) → entries.find key_in key ops ≡ change_of key (find key from) (find key to)) → LeadTo from to ops
leads_by_told from to ops ordered others_ordered ascending told = record {
  ascending = ascending;
  replayed = same_entries key_of (replay_on from ops) to (in_order-replay from ops ordered) others_ordered (λ key.
      effect ops from key ascending ∙ ap (λ (o : Option Op). after o (find key from)) (told key) ∙ after_change key (find key from) (find key to));
  changing = λ k d inside. differs (get_or ops k d) (Contains-get_or ops k d inside);
}
  where
    differs : (op : Op) → Contains ops op → find (key_in op) from ≢ find (key_in op) to
    differs op there = (changed (key_in op) (find (key_in op) from) (find (key_in op) to) op (sym (told (key_in op)) ∙ found_member op ops ascending there)).0

-- with one key's change
ascending_with : (key : List ℕ) (op : Option Op) (ops : List Op) → AreAscending ops → AreAscending (with_change key op ops)
ascending_with key None ops ascending = in_order-without key_in key ops ascending
ascending_with key (Some op) ops ascending = in_order-with key_in op ops ascending

told_here : (key : List ℕ) (op : Option Op) (ops : List Op) → IfSome op (λ (o : Op). key_in o ≡ key) → entries.find key_in key (with_change key op ops) ≡ op
told_here key None ops own = find-without key_in key ops
told_here key (Some op) ops own = subst (λ (k : List ℕ). entries.find key_in k (entries.with_entry key_in op ops) ≡ Some op) own (find-with key_in op ops)

told_others : (key other : List ℕ) (op : Option Op) (ops : List Op) → IfSome op (λ (o : Op). key_in o ≡ key) → other ≢ key → entries.find key_in other (with_change key op ops) ≡ entries.find key_in other ops
told_others key other None ops own differs = find-without_not key_in key other ops differs
told_others key other (Some op) ops own differs = find-with_not key_in op ops other (λ same. differs (same ∙ own))

pub changed_own : (key : List ℕ) (was now : Option Row) → HasKey key now → IfSome (change_of key was now) (λ (o : Op). key_in o ≡ key)
changed_own key was now has = by_case (is_same was now)
  where
    by_row : (o : Option Row) → HasKey key o → key_in (op_for key o) ≡ key
    by_row None has = refl
    by_row (Some row) has = has row refl

    by_case : (b : Bool) → IfSome (if b then None else Some (op_for key now)) (λ (o : Op). key_in o ≡ key)
    by_case true = tt
    by_case false = by_row now has

-- if one key has another row, its change alone is another
pub lead_with : (from rows new : List Row) (ops : List Op) (key : List ℕ) (row : Option Row) → IsInOrder from → IsInOrder new → LeadTo from rows ops → HasKey key row → find key new ≡ row → ((other : List ℕ) → other ≢ key → find other new ≡ find other rows) → LeadTo from new (with_change key (change_of key (find key from) row) ops)
lead_with from rows new ops key row ordered new_ordered lead has here others =
    leads_by_told from new (with_change key (change_of key (find key from) row) ops) ordered new_ordered (ascending_with key (change_of key (find key from) row) ops lead.ascending) (λ q. by_key q (compare q key) refl)
  where
    elsewhere : (q : List ℕ) → q ≢ key → entries.find key_in q (with_change key (change_of key (find key from) row) ops) ≡ change_of q (find q from) (find q new)
    elsewhere q differs =
        told_others key q (change_of key (find key from) row) ops (changed_own key (find key from) row has) differs
        ∙ told_by_key from rows ops lead q
        ∙ ap (change_of q (find q from)) (sym (others q differs))

    by_key : (q : List ℕ) (o : Ordering) → compare q key ≡ o → entries.find key_in q (with_change key (change_of key (find key from) row) ops) ≡ change_of q (find q from) (find q new)
    by_key q Equal at =
        let same : key ≡ q = sym (same_key q key at) in
        subst (λ (k : List ℕ). entries.find key_in k (with_change key (change_of key (find key from) row) ops) ≡ change_of k (find k from) (find k new)) same
        (told_here key (change_of key (find key from) row) ops (changed_own key (find key from) row has) ∙ ap (change_of key (find key from)) (sym here))
    by_key q Less at = elsewhere q (λ same. let e : Less ≡ Equal = sym at ∙ compare_same q key same in cc)
    by_key q Greater at = elsewhere q (λ same. let e : Greater ≡ Equal = sym at ∙ compare_same q key same in cc)

pub nothing_leads : (rows : List Row) → LeadTo rows rows []
nothing_leads rows = record { ascending = tt; replayed = refl; changing = λ k d inside. absurd (omega (arith, inside)) }

-- ---- one operation among others, by its place

module _ (ops : List Op) (key : List ℕ) where
  own_key : (op : Op) (given : Option Op) → given ≡ Some op → IfSome given (λ (o : Op). key_in o ≡ key) → key_in op ≡ key
  own_key op given is own = subst (λ (o : Option Op). IfSome o (λ (p : Op). key_in p ≡ key)) is own

  pub set_change : (op : Op) (given : Option Op) (i : ℕ) → AreAscending ops → entries.IsAt key_in ops key i → given ≡ Some op → IfSome given (λ (o : Op). key_in o ≡ key) → set ops i op ≡ with_change key given ops
  set_change op given i ascending at is own =
      set_at_place key_in ops op i ascending (subst (λ (k : List ℕ). entries.IsAt key_in ops k i) (sym (own_key op given is own)) at)
      ∙ ap (λ (o : Option Op). with_change key o ops) (sym is)

  pub remove_change : (given : Option Op) (i : ℕ) → AreAscending ops → entries.IsAt key_in ops key i → given ≡ None → remove ops i ≡ with_change key given ops
  remove_change given i ascending at is = remove_at_place key_in ops key i ascending at ∙ ap (λ (o : Option Op). with_change key o ops) (sym is)

  pub insert_change : (op : Op) (given : Option Op) (i : ℕ) → entries.IsGap key_in ops key i → given ≡ Some op → IfSome given (λ (o : Op). key_in o ≡ key) → insert ops i op ≡ with_change key given ops
  insert_change op given i gap is own =
      insert_in_gap key_in ops op i (subst (λ (k : List ℕ). entries.IsGap key_in ops k i) (sym (own_key op given is own)) gap)
      ∙ ap (λ (o : Option Op). with_change key o ops) (sym is)

  pub no_change_there : (given : Option Op) (i : ℕ) → entries.IsGap key_in ops key i → given ≡ None → with_change key given ops ≡ ops
  no_change_there given i gap is = ap (λ (o : Option Op). with_change key o ops) is ∙ without_absent key_in key ops (find_gap key_in ops key i gap)

pub with_in_range : (key : List ℕ) (op : Option Op) (ops : List Op) → IfSome op IsOp → All IsOp ops → All IsOp (with_change key op ops)
with_in_range key None ops is all = All-without key_in IsOp key ops all
with_in_range key (Some op) ops is all = All-with key_in IsOp op ops is all
