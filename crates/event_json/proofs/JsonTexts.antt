-- What `serde_json` writes for a value is its text.
use Rattle.std.proofs.Common.{◌≡◌, ℕ, List, [], ◌∷◌, ◌++◌, length, Bool, true, false, refl, sym, ap, ◌∙◌, arith, append_assoc}
use Rattle.std.specs.Prelude.{flat_map, ◌||◌}
use Rattle.std.specs.List.{join_with_byte}
use Rattle.std.proofs.lemmas.Bool.Decides.{nat_tests}
use Rattle.json.specs.Print.{escape_byte, quoted as json_quoted}
use Rattle.serde_json.specs.Events.{items_len, members_len}
use Rattle.serde_json.specs.Written.{has_float, items_have_float, members_have_float, compact_text, items_text, members_text}
use Rattle.event_tree.specs.Value.{TreeValue, null, flag, int, str, list, fields, Values, no_values, value, Members, no_members, member, FieldList, as_values, as_members}
use Rattle.event_json.specs.Data.{data_of, items_of, members_of}
use Rattle.event_json.specs.Json.{escape, quoted, json_of, values_json, members_json}

escape_same : (b : ℕ) → escape_byte b ≡ escape b
unfolding escape escape_byte
escape_same b = grind (arith, nat_tests)

escapes_same : (text : List ℕ) → flat_map escape_byte text ≡ flat_map escape text
escapes_same [] = refl
escapes_same (b ∷ text) = λ i. escape_same b i ++ escapes_same text i

quoted_same : (text : List ℕ) → json_quoted text ≡ quoted text
quoted_same text = ap (λ t. 0x22 ∷ (t ++ 0x22 ∷ [])) (escapes_same text)

-- one field, with what follows it
member_text : (k written text rest : List ℕ) → written ≡ text → json_quoted k ++ 0x3A ∷ (written ++ rest) ≡ (quoted k ++ 0x3A ∷ text) ++ rest
member_text k written text rest same =
    (λ i. quoted_same k i ++ 0x3A ∷ (same i ++ rest)) ∙ sym (append_assoc (quoted k) (0x3A ∷ text) rest)

mutual
  pub value_text : (v : TreeValue) → compact_text (data_of v) ≡ json_of v
  value_text null = refl
  value_text (flag true) = refl
  value_text (flag false) = refl
  value_text (int n) = refl
  value_text (str s) = quoted_same s
  value_text (list vs) = ap (λ t. 0x5B ∷ t) (items_first vs)
  value_text (fields ms) = ap (λ t. 0x7B ∷ t) (members_first ms)

  items_first : (vs : Values) → items_text false (items_of vs) ≡ join_with_byte 0x2C (values_json vs) ++ 0x5D ∷ []
  items_first no_values = refl
  items_first (value v vs) = ap (λ t. t ++ items_text true (items_of vs)) (value_text v) ∙ items_more (json_of v) vs

  items_more : (x : List ℕ) (vs : Values) → x ++ items_text true (items_of vs) ≡ join_with_byte 0x2C (x ∷ values_json vs) ++ 0x5D ∷ []
  items_more x no_values = refl
  items_more x (value v vs) =
      ap (λ t. x ++ (0x2C ∷ t)) (ap (λ t. t ++ items_text true (items_of vs)) (value_text v) ∙ items_more (json_of v) vs)
      ∙ sym (append_assoc x (0x2C ∷ join_with_byte 0x2C (json_of v ∷ values_json vs)) (0x5D ∷ []))

  members_first : (ms : Members) → members_text false (members_of ms) ≡ join_with_byte 0x2C (members_json ms) ++ 0x7D ∷ []
  members_first no_members = refl
  members_first (member k v ms) = member_text k _ (json_of v) (members_text true (members_of ms)) (value_text v) ∙ members_more (quoted k ++ 0x3A ∷ json_of v) ms

  members_more : (x : List ℕ) (ms : Members) → x ++ members_text true (members_of ms) ≡ join_with_byte 0x2C (x ∷ members_json ms) ++ 0x7D ∷ []
  members_more x no_members = refl
  members_more x (member k v ms) =
      ap (λ t. x ++ (0x2C ∷ t)) (member_text k _ (json_of v) (members_text true (members_of ms)) (value_text v) ∙ members_more (quoted k ++ 0x3A ∷ json_of v) ms)
      ∙ sym (append_assoc x (0x2C ∷ join_with_byte 0x2C ((quoted k ++ 0x3A ∷ json_of v) ∷ members_json ms)) (0x7D ∷ []))

neither : (a b : Bool) → a ≡ false → b ≡ false → (a || b) ≡ false
neither a b h k = rw (h, k)

mutual
  pub value_whole : (v : TreeValue) → has_float (data_of v) ≡ false
  value_whole null = refl
  value_whole (flag b) = refl
  value_whole (int n) = refl
  value_whole (str s) = refl
  value_whole (list vs) = items_whole vs
  value_whole (fields ms) = members_whole ms

  items_whole : (vs : Values) → items_have_float (items_of vs) ≡ false
  items_whole no_values = refl
  items_whole (value v vs) = neither _ _ (value_whole v) (items_whole vs)

  members_whole : (ms : Members) → members_have_float (members_of ms) ≡ false
  members_whole no_members = refl
  members_whole (member k v ms) = neither _ _ (value_whole v) (members_whole ms)

pub items_len-of : (vs : List TreeValue) → items_len (items_of (as_values vs)) ≡ length vs
items_len-of [] = refl
items_len-of (v ∷ vs) = omega (arith, items_len-of vs)

pub members_len-of : (ps : FieldList) → members_len (members_of (as_members ps)) ≡ length ps
members_len-of [] = refl
members_len-of (p ∷ ps) = omega (arith, members_len-of ps)
