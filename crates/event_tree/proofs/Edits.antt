-- What an edit of the pairs of a map does to its order and to what each key has.
use Rattle.std.proofs.Common.{◌≡◌, ◌≢◌, ℕ, List, Option, Some, None, option_map, refl, ap}
use Rattle.wire_base.specs.KeyOrder.{IsInOrder, find as find_entry}
use Rattle.wire_base.proofs.Keyed.{without_absent, in_order-with, in_order-without, find-with, find-with_not, find-without, find-without_not}
use Rattle.event_tree.specs.Value.{TreeValue, FieldList}
use Rattle.event_tree.specs.Keys.{key_of, find, set_field, unset_field}

-- the value of a pair
abbrev pub value_in : List ℕ × TreeValue → TreeValue
value_in pair = pair.1

-- ---- what a key has after an edit

pub find-set : (key : List ℕ) (v : TreeValue) (ps : FieldList) → find key (set_field key v ps) ≡ Some v
find-set key v ps = ap (option_map value_in) (find-with key_of (key, v) ps)

pub find-set_not : (key other : List ℕ) (v : TreeValue) (ps : FieldList) → other ≢ key → find other (set_field key v ps) ≡ find other ps
find-set_not key other v ps differs = ap (option_map value_in) (find-with_not key_of (key, v) ps other differs)

pub find-unset_not : (key other : List ℕ) (ps : FieldList) → other ≢ key → find other (unset_field key ps) ≡ find other ps
find-unset_not key other ps differs = ap (option_map value_in) (find-without_not key_of key other ps differs)

pub find-unset : (key : List ℕ) (ps : FieldList) → find key (unset_field key ps) ≡ None
find-unset key ps = ap (option_map value_in) (find-without key_of key ps)

-- if the key is not, nothing goes
pub unset_absent : (key : List ℕ) (ps : FieldList) → find key ps ≡ None → unset_field key ps ≡ ps
unset_absent key ps lacks = without_absent key_of key ps (no_pair (find_entry key_of key ps) lacks)
  where
    no_pair : (o : Option (List ℕ × TreeValue)) → option_map value_in o ≡ None → o ≡ None
    no_pair None e = refl
    no_pair (Some pair) e = absurd (let q : Some (pair.1) ≡ None = e in cc)

-- ---- the order is kept

pub in_order-set : (key : List ℕ) (v : TreeValue) (ps : FieldList) → IsInOrder key_of ps → IsInOrder key_of (set_field key v ps)
in_order-set key v ps ordered = in_order-with key_of (key, v) ps ordered

pub in_order-unset : (key : List ℕ) (ps : FieldList) → IsInOrder key_of ps → IsInOrder key_of (unset_field key ps)
in_order-unset key ps ordered = in_order-without key_of key ps ordered
