-- What a key has after an edit of a map.
use Rattle.std.proofs.Common.{◌≡◌, ◌≢◌, ◌⊎◌, ℕ, Bool, true, false, List, [], ◌∷◌, Some, None, option_map, bytes_eq, if◌then◌else◌, inl, inr, refl, sym, ap, ◌∙◌}
use Rattle.std.specs.Ordering.{match_ordering, is_eq}
use Rattle.std.specs.declared.cmp.Ordering.{Ordering}
use Rattle.std.specs.declared.cmp.Ordering.TheVariants.{Less, Equal, Greater}
use Rattle.std.proofs.lemmas.Bool.{cases_Bool, both_ways}
use Rattle.std.proofs.lemmas.Slice.Eq.{bytes_eq-Decides}
use Rattle.wire_base.specs.KeyOrder.{compare, find as find_entry}
use Rattle.wire_base.proofs.ByteOrder.{same_key, compare_same}
use Rattle.wire_base.proofs.Keyed.{find-with, find-with_not, find-without, find-without_not}
use Rattle.event_tree.specs.Keys.{key_of, find, set_field, unset_field}
use Rattle.event_tree.specs.Value.{TreeValue, FieldList}

abbrev value_in : List ℕ × TreeValue → TreeValue
value_in pair = pair.1

pub find-set : (key : List ℕ) (v : TreeValue) (ps : FieldList) → find key (set_field key v ps) ≡ Some v
find-set key v ps = ap (option_map value_in) (find-with key_of (key, v) ps)

pub find-set_not : (key other : List ℕ) (v : TreeValue) (ps : FieldList) → other ≢ key → find other (set_field key v ps) ≡ find other ps
find-set_not key other v ps differs = ap (option_map value_in) (find-with_not key_of (key, v) ps other differs)

pub find-unset : (key : List ℕ) (ps : FieldList) → find key (unset_field key ps) ≡ None
find-unset key ps = ap (option_map value_in) (find-without key_of key ps)

pub find-unset_not : (key other : List ℕ) (ps : FieldList) → other ≢ key → find other (unset_field key ps) ≡ find other ps
find-unset_not key other ps differs = ap (option_map value_in) (find-without_not key_of key other ps differs)

-- the later of two values is kept
pub set-set : (key : List ℕ) (old new : TreeValue) (ps : FieldList) → set_field key new (set_field key old ps) ≡ set_field key new ps
set-set key old new [] = ap (λ o. match_ordering o ((key, new) ∷ (key, old) ∷ []) ((key, new) ∷ []) ((key, old) ∷ (key, new) ∷ [])) (compare_same key key refl)
set-set key old new (p ∷ ps) = by_case (compare key p.0) refl (set-set key old new ps)
  where
    here : (rest : FieldList) → set_field key new ((key, old) ∷ rest) ≡ (key, new) ∷ rest
    here rest = ap (λ o. match_ordering o ((key, new) ∷ (key, old) ∷ rest) ((key, new) ∷ rest) ((key, old) ∷ set_field key new rest)) (compare_same key key refl)

    by_case : (o : Ordering) → compare key p.0 ≡ o → set_field key new (set_field key old ps) ≡ set_field key new ps →
        set_field key new (match_ordering o ((key, old) ∷ p ∷ ps) ((key, old) ∷ ps) (p ∷ set_field key old ps))
        ≡ match_ordering o ((key, new) ∷ p ∷ ps) ((key, new) ∷ ps) (p ∷ set_field key new ps)
    by_case Less e later = here (p ∷ ps)
    by_case Equal e later = here ps
    by_case Greater e later =
        ap (λ o. match_ordering o ((key, new) ∷ p ∷ set_field key old ps) ((key, new) ∷ set_field key old ps) (p ∷ set_field key new (set_field key old ps))) e
        ∙ ap (λ (l : FieldList). p ∷ l) later

-- ---- a look for a key, pair by pair

same_test : (key name : List ℕ) → is_eq (compare key name) ≡ bytes_eq name key
same_test key name = by_case (compare key name) refl (cases_Bool (bytes_eq name key))
  where
    equal : bytes_eq name key ≡ true → compare key name ≡ Equal
    equal is = compare_same key name (sym ((bytes_eq-Decides name key).0 is))

    by_case : (o : Ordering) → compare key name ≡ o → (bytes_eq name key ≡ true) ⊎ (bytes_eq name key ≡ false) → is_eq o ≡ bytes_eq name key
    by_case Less e (inl is) = absurd (let q : Less ≡ Equal = sym e ∙ equal is in cc)
    by_case Less e (inr is) = sym is
    by_case Equal e (inl is) = sym is
    by_case Equal e (inr is) = absurd (both_ways (bytes_eq name key) is ((bytes_eq-Decides name key).1 (sym (same_key key name e))))
    by_case Greater e (inl is) = absurd (let q : Greater ≡ Equal = sym e ∙ equal is in cc)
    by_case Greater e (inr is) = sym is

pub find_step : (key name : List ℕ) (value : TreeValue) (rest : FieldList) →
    find key ((name, value) ∷ rest) ≡ (if bytes_eq name key then Some value else find key rest)
find_step key name value rest = by_case (is_eq (compare key name)) (bytes_eq name key) (same_test key name)
  where
    by_case : (b c : Bool) → b ≡ c → option_map value_in (if b then Some (name, value) else find_entry key_of key rest) ≡ (if c then Some value else find key rest)
    by_case true true e = refl
    by_case true false e = absurd (cc)
    by_case false true e = absurd (cc)
    by_case false false e = refl
