-- What is kept by keys, read as the slots of each key and as the rows that were kept.
use Rattle.std.proofs.Common.{◌≡◌, ◌⊎◌, inl, inr, ℕ, Bool, true, false, cond, List, [], ◌∷◌, map, Contains, Option, Some, None, Result, Ok, Err, OnOk, IsSome, unwrap_or, refl, sym, ap, ◌∙◌, subst}
use Rattle.std.specs.List.{filter_map, cons_option, AllByRecursion}
use Rattle.std.specs.List.Sorted.{IsStrictlySortedBy}
use Rattle.std.specs.BTreeMap.{BTreeMap, IsOrdered, is_at}
use Rattle.std.specs.Option.{option_and_then, option_map}
use Rattle.std.specs.Ordering.{is_eq}
use Rattle.std.specs.declared.cmp.Ordering.{Ordering}
use Rattle.std.specs.declared.cmp.Ordering.TheVariants.{Less, Equal, Greater}
use Rattle.std.proofs.lemmas.Cmp.{nat_list_cmp_total}
use Rattle.std.proofs.lemmas.Map.Views.{All-found}
use Rattle.std.proofs.lemmas.List.Elements.{All-contains}
use Rattle.wire_base.proofs.ByteOrder.{compare_same, same_key}
use Rattle.wire_base.specs.KeyOrder.{compare}
use Rattle.wire_base.specs.Ranges.{IsKey}
use Rattle.wire_base.specs.declared.row.Row.{Row}
use Rattle.ship_core.specs.Changes.{change_of}
use Rattle.ship_core.specs.Rows.{find}
use Rattle.ack_tracker.specs.FileState.{FileState}
use Rattle.ack_tracker.specs.Keys.{KeepsRows, KeepsSlots, at_key, change_kept, change_now, noted_of, row_before, row_now, slots_at, slots_of, was_of}
use Rattle.ack_tracker.specs.declared.keyed.Keyed.{Keyed}
use Rattle.ack_tracker.proofs.AtKey.{Sets, key_cases}
use Rattle.ack_tracker.proofs.Changing.{first_of}
use Rattle.ack_tracker.proofs.Contained.{first_there, later_there, none_there, there_cases}

abbrev pub slots_in : Option Keyed → List ℕ
slots_in None = []
slots_in (Some keyed) = keyed.slots

abbrev pub was_in : Option Keyed → Option (Option Row)
was_in o = option_and_then (λ keyed. keyed.was) o

abbrev pub key_in : List ℕ × Keyed → List ℕ
key_in entry = entry.0

-- ---- the slots of a key

pub slots_at_of : (entries : List (List ℕ × Keyed)) (key : List ℕ) → slots_at (slots_of entries) key ≡ slots_in (at_key entries key)
slots_at_of [] key = refl
slots_at_of (entry ∷ entries) key = by_case (is_at (compare key) entry.0) (slots_at_of entries key)
  where
    by_case : (b : Bool) → slots_at (slots_of entries) key ≡ slots_in (at_key entries key) → unwrap_or (cond b (Some entry.1.slots) (at_key (slots_of entries) key)) [] ≡ slots_in (cond b (Some entry.1) (at_key entries key))
    by_case true later = refl
    by_case false later = later

-- ---- the row that was kept of a key

-- keys after this one
abbrev IsFirst : List ℕ → List (List ℕ) → Type 0
IsFirst key keys = AllByRecursion (λ (other : List ℕ). compare key other ≡ Less) keys

none_behind : (key : List ℕ) (entries : List (List ℕ × Keyed)) → IsFirst key (map key_in entries) → at_key entries key ≡ None
none_behind key [] first = refl
none_behind key (entry ∷ entries) first = by_case (compare key entry.0) first.0 (none_behind key entries first.1)
  where
    by_case : (o : Ordering) → o ≡ Less → at_key entries key ≡ None → cond (is_eq o) (Some entry.1) (at_key entries key) ≡ None
    by_case Less e later = later
    by_case Equal e later = absurd (let q : Equal ≡ Less = e in cc)
    by_case Greater e later = later

pub at_noted : (entries : List (List ℕ × Keyed)) (key : List ℕ) → IsStrictlySortedBy compare (map key_in entries) → at_key (noted_of entries) key ≡ was_in (at_key entries key)
unfolding IsStrictlySortedBy
at_noted [] key sorted = refl
at_noted (entry ∷ entries) key sorted = by_order (compare key entry.0) refl (at_noted entries key sorted.1)
  where
    behind : Option (Option Row)
    behind = at_key (noted_of entries) key

    -- the entry is not of this key
    skipped : (o : Ordering) → compare key entry.0 ≡ o → is_eq o ≡ false → (was : Option (Option Row)) → at_key (cons_option (option_map (λ row. (entry.0, row)) was) (noted_of entries)) key ≡ behind
    skipped o e other None = refl
    skipped o e other (Some row) = ap (λ (b : Bool). cond b (Some row) behind) (ap is_eq e ∙ other)

    -- it is, and no other is
    found : compare key entry.0 ≡ Equal → (was : Option (Option Row)) → behind ≡ None → at_key (cons_option (option_map (λ row. (entry.0, row)) was) (noted_of entries)) key ≡ was
    found e None none = none
    found e (Some row) none = ap (λ (o : Ordering). cond (is_eq o) (Some row) behind) e

    by_order : (o : Ordering) → compare key entry.0 ≡ o → behind ≡ was_in (at_key entries key) → at_key (cons_option (was_of entry) (noted_of entries)) key ≡ was_in (cond (is_eq (compare key entry.0)) (Some entry.1) (at_key entries key))
    by_order Less e later = skipped Less e refl entry.1.was ∙ later ∙ sym (ap (λ (o : Ordering). was_in (cond (is_eq o) (Some entry.1) (at_key entries key))) e)
    by_order Greater e later = skipped Greater e refl entry.1.was ∙ later ∙ sym (ap (λ (o : Ordering). was_in (cond (is_eq o) (Some entry.1) (at_key entries key))) e)
    by_order Equal e later =
        let none : at_key entries key ≡ None = none_behind key entries (subst (λ (k : List ℕ). IsFirst k (map key_in entries)) (sym (same_key key entry.0 e)) sorted.0) in
        found e entry.1.was (later ∙ ap was_in none) ∙ sym (ap (λ (o : Ordering). was_in (cond (is_eq o) (Some entry.1) (at_key entries key))) e)

-- the keys that were noted ascend, too
first_kept : (key : List ℕ) (entries : List (List ℕ × Keyed)) → IsFirst key (map key_in entries) → IsFirst key (map first_of (noted_of entries))
first_kept key [] first = tt
first_kept key (entry ∷ entries) first = by_case entry.1.was (first_kept key entries first.1)
  where
    by_case : (was : Option (Option Row)) → IsFirst key (map first_of (noted_of entries)) → IsFirst key (map first_of (cons_option (option_map (λ row. (entry.0, row)) was) (noted_of entries)))
    by_case None later = later
    by_case (Some row) later = (first.0, later)

pub noted_sorted : (entries : List (List ℕ × Keyed)) → IsStrictlySortedBy compare (map key_in entries) → IsStrictlySortedBy compare (map first_of (noted_of entries))
unfolding IsStrictlySortedBy
noted_sorted [] sorted = tt
noted_sorted (entry ∷ entries) sorted = by_case entry.1.was (noted_sorted entries sorted.1)
  where
    by_case : (was : Option (Option Row)) → IsStrictlySortedBy compare (map first_of (noted_of entries)) → IsStrictlySortedBy compare (map first_of (cons_option (option_map (λ row. (entry.0, row)) was) (noted_of entries)))
    by_case None later = later
    by_case (Some row) later = (first_kept entry.0 entries sorted.0, later)

behind_less : (key : List ℕ) (entries : List (List ℕ × Option Row)) → IsFirst key (map first_of entries) → (entry : List ℕ × Option Row) → Contains entries entry → compare key entry.0 ≡ Less
behind_less key [] first entry there = absurd (none_there entry there)
behind_less key (one ∷ entries) first entry there = by_case (there_cases one entry entries there) (behind_less key entries first.1 entry)
  where
    by_case : (one ≡ entry) ⊎ Contains entries entry → (Contains entries entry → compare key entry.0 ≡ Less) → compare key entry.0 ≡ Less
    by_case (inl same) later = subst (λ (e : List ℕ × Option Row). compare key e.0 ≡ Less) same first.0
    by_case (inr behind) later = later behind

-- each entry is what its key has
pub noted_found : (entries : List (List ℕ × Option Row)) → IsStrictlySortedBy compare (map first_of entries) → (entry : List ℕ × Option Row) → Contains entries entry → at_key entries entry.0 ≡ Some entry.1
unfolding IsStrictlySortedBy
noted_found [] sorted entry there = absurd (none_there entry there)
noted_found (one ∷ entries) sorted entry there = by_case (there_cases one entry entries there) (noted_found entries sorted.1 entry)
  where
    by_order : (o : Ordering) → compare entry.0 one.0 ≡ o → compare one.0 entry.0 ≡ Less → at_key entries entry.0 ≡ Some entry.1 → cond (is_eq (compare entry.0 one.0)) (Some one.1) (at_key entries entry.0) ≡ Some entry.1
    by_order Less e less later = ap (λ (o : Ordering). cond (is_eq o) (Some one.1) (at_key entries entry.0)) e ∙ later
    by_order Greater e less later = ap (λ (o : Ordering). cond (is_eq o) (Some one.1) (at_key entries entry.0)) e ∙ later
    by_order Equal e less later = absurd (let q : Equal ≡ Less = sym (compare_same one.0 entry.0 (sym (same_key entry.0 one.0 e))) ∙ less in cc)

    by_case : (one ≡ entry) ⊎ Contains entries entry → (Contains entries entry → at_key entries entry.0 ≡ Some entry.1) → cond (is_eq (compare entry.0 one.0)) (Some one.1) (at_key entries entry.0) ≡ Some entry.1
    by_case (inl same) later = ap (λ (o : Ordering). cond (is_eq o) (Some one.1) (at_key entries entry.0)) (compare_same entry.0 one.0 (sym (ap (λ (e : List ℕ × Option Row). e.0) same))) ∙ ap (λ (e : List ℕ × Option Row). Some e.1) same
    by_case (inr behind) later = by_order (compare entry.0 one.0) refl (behind_less one.0 entries sorted.0 entry behind) (later behind)

-- ---- one key is written

module _ (old new : BTreeMap (List ℕ) Keyed) (key : List ℕ) (after : Keyed) (was_sorted : IsOrdered compare old) (sorted : IsOrdered compare new) (sets : Sets old.entries new.entries key after) where
  pub noted_here : at_key (noted_of new.entries) key ≡ after.was
  noted_here = at_noted new.entries key sorted ∙ ap was_in sets.here

  pub slots_there : slots_at (slots_of new.entries) key ≡ after.slots
  slots_there = slots_at_of new.entries key ∙ ap slots_in sets.here

  pub keeps_rows : (before : Option Keyed) → at_key old.entries key ≡ before → (rows : List ℕ → Option Row) → IsKey key → ((after.was ≡ was_in before) ⊎ ((was_in before ≡ None) × (after.was ≡ Some (rows key)))) → KeepsRows (noted_of old.entries) (noted_of new.entries) rows
  keeps_rows before is rows in_range keeps other = by_key (key_cases key other)
    where
      noted_before : at_key (noted_of old.entries) key ≡ was_in before
      noted_before = at_noted old.entries key was_sorted ∙ ap was_in is

      Kept : List ℕ → Type 0
      Kept k = (at_key (noted_of new.entries) k ≡ at_key (noted_of old.entries) k) ⊎ ((at_key (noted_of old.entries) k ≡ None) × IsKey k × (at_key (noted_of new.entries) k ≡ Some (rows k)))

      of_key : ((after.was ≡ was_in before) ⊎ ((was_in before ≡ None) × (after.was ≡ Some (rows key)))) → Kept key
      of_key (inl same) = inl (noted_here ∙ same ∙ sym noted_before)
      of_key (inr set) = inr (noted_before ∙ set.0, in_range, noted_here ∙ set.1)

      by_key : (key ≡ other) ⊎ (key ≡ other → ⊥) → Kept other
      by_key (inl same) = subst Kept same (of_key keeps)
      by_key (inr differs) = inl (at_noted new.entries other sorted ∙ ap was_in (sets.others other differs) ∙ sym (at_noted old.entries other was_sorted))

  pub keeps_own : (before : Option Keyed) → at_key old.entries key ≡ before → ((slot : ℕ) → Contains (slots_in before) slot → Contains after.slots slot) → KeepsSlots (slots_of old.entries) (slots_of new.entries)
  keeps_own before is stay other slot there = by_key (key_cases key other)
    where
      by_key : (key ≡ other) ⊎ (key ≡ other → ⊥) → Contains (slots_at (slots_of new.entries) other) slot
      by_key (inl same) =
          let mine = subst (λ (k : List ℕ). Contains (slots_at (slots_of old.entries) k) slot) (sym same) there in
          let its = subst (λ (l : List ℕ). Contains l slot) (slots_at_of old.entries key ∙ ap slots_in is) mine in
          subst (λ (k : List ℕ). Contains (slots_at (slots_of new.entries) k) slot) same (subst (λ (l : List ℕ). Contains l slot) (sym slots_there) (stay slot its))
      by_key (inr differs) =
          subst (λ (l : List ℕ). Contains l slot) (slots_at_of old.entries other ∙ sym (ap slots_in (sets.others other differs)) ∙ sym (slots_at_of new.entries other)) there

-- ---- the changes of the keys that were noted

module _ (files : List (ℕ × FileState)) (all : List (List ℕ × Keyed)) where
  told : (entries : List (List ℕ × Keyed)) → ((entry : List ℕ × Keyed) → Contains entries entry → slots_at (slots_of all) entry.0 ≡ entry.1.slots) → filter_map (change_kept files) entries ≡ filter_map (change_now files (slots_of all)) (noted_of entries)
  told [] own = refl
  told (entry ∷ entries) own = by_case entry.1.was (own entry (first_there entry entries)) (told entries (λ other there. own other (later_there entry other entries there)))
    where
      by_case : (was : Option (Option Row)) → slots_at (slots_of all) entry.0 ≡ entry.1.slots → filter_map (change_kept files) entries ≡ filter_map (change_now files (slots_of all)) (noted_of entries)
          → cons_option (option_and_then (λ row. option_and_then (change_of entry.0 row) (row_now files entry.1.slots entry.0)) was) (filter_map (change_kept files) entries)
          ≡ filter_map (change_now files (slots_of all)) (cons_option (option_map (λ row. (entry.0, row)) was) (noted_of entries))
      by_case None its later = later
      by_case (Some row) its later = λ k. cons_option (option_and_then (change_of entry.0 row) (row_now files (sym its k) entry.0)) (later k)

pub changes_told : (files : List (ℕ × FileState)) (keys : BTreeMap (List ℕ) Keyed) → IsOrdered compare keys → filter_map (change_kept files) keys.entries ≡ filter_map (change_now files (slots_of keys.entries)) (noted_of keys.entries)
changes_told files keys sorted =
    told files keys.entries keys.entries (λ entry there.
    slots_at_of keys.entries entry.0 ∙ ap slots_in (All-contains (λ (e : List ℕ × Keyed). at_key keys.entries e.0 ≡ Some e.1) keys.entries entry (All-found nat_list_cmp_total keys sorted) there))

-- ---- no key was noted

abbrev pub let_go : Keyed → Keyed
let_go keyed = record keyed { was = None }

pub none_noted : (entries : List (List ℕ × Keyed)) → noted_of (map (λ entry. (entry.0, let_go entry.1)) entries) ≡ []
none_noted [] = refl
none_noted (entry ∷ entries) = none_noted entries

pub same_slots : (entries : List (List ℕ × Keyed)) → slots_of (map (λ entry. (entry.0, let_go entry.1)) entries) ≡ slots_of entries
same_slots [] = refl
same_slots (entry ∷ entries) = ap (λ (l : List (List ℕ × List ℕ)). (entry.0, entry.1.slots) ∷ l) (same_slots entries)

-- ---- calls

pub on_ok : {A E P Q : Type 0} (r : Result A E) → (P → Q) → OnOk r P → OnOk r Q
on_ok (Ok a) leads held = leads held
on_ok (Err e) leads held = tt

some_range : (was : Option (Option Row)) (key : List ℕ) → ((row : Option Row) → was ≡ Some row → IsKey key) → IsSome was → IsKey key
some_range None key each some = absurd (let q : false ≡ true = some in cc)
some_range (Some row) key each some = each row refl

pub key_in_range : (entries : List (List ℕ × Keyed)) → IsStrictlySortedBy compare (map key_in entries) → (key : List ℕ) (keyed : Keyed) → at_key entries key ≡ Some keyed → ((key : List ℕ) (was : Option Row) → at_key (noted_of entries) key ≡ Some was → IsKey key) → IsSome keyed.was → IsKey key
key_in_range entries sorted key keyed is in_range some = some_range keyed.was key (λ row kept. in_range key row (at_noted entries key sorted ∙ ap was_in is ∙ kept)) some

-- ---- one key is kept

-- the row before a note, by what was kept of its key
pub row_of : (opening : List Row) (files : List (ℕ × FileState)) (keys : List (List ℕ × Keyed)) (key : List ℕ) (before : Option Keyed) → at_key keys key ≡ before → unwrap_or (row_now files (slots_in before) key) (find key opening) ≡ row_before opening files (slots_of keys) key
row_of opening files keys key before is = ap (λ (own : List ℕ). unwrap_or (row_now files own key) (find key opening)) (sym (slots_at_of keys key ∙ ap slots_in is))

abbrev pub Keeps : Keyed → Option Keyed → Option Row → Type 0
Keeps after before row = (after.was ≡ was_in before) ⊎ ((was_in before ≡ None) × (after.was ≡ Some row))

pub with_row : (after : Keyed) (before : Option Keyed) (row other : Option Row) → row ≡ other → Keeps after before row → Keeps after before other
with_row after before row other same keeps = subst (Keeps after before) same keeps
