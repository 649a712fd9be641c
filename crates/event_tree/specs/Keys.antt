-- The fields of a map as pairs of a key and a value: keys in byte order, each key once (this project's profile).
use Rattle.std.specs.Prelude.{ℕ, List, Option, option_map}
use Rattle.wire_base.specs.KeyOrder.{with_entry, without_key, find as find_entry}
use Rattle.event_tree.specs.Value.{TreeValue, FieldList}

-- the key of a pair
abbrev pub key_of : List ℕ × TreeValue → List ℕ
key_of pair = pair.0

-- the value of a key
abbrev pub find : List ℕ → FieldList → Option TreeValue
find key pairs = option_map (λ (pair : List ℕ × TreeValue). pair.1) (find_entry key_of key pairs)

-- the pairs with the value at the key: in place of an earlier one, or at the place to which the key belongs
abbrev pub set_field : List ℕ → TreeValue → FieldList → FieldList
set_field key value pairs = with_entry key_of (key, value) pairs

-- the pairs without the key
abbrev pub unset_field : List ℕ → FieldList → FieldList
unset_field key pairs = without_key key_of key pairs
