-- The conditions of a document without a fault are of their form.
use Rattle.std.proofs.Common.{◌≡◌, ◌⊎◌, ℕ, zero, suc, ◌+◌, ◌<◌, true, false, Bool, List, [], ◌∷◌, ◌++◌, length, All, Option, Some, None, refl, sym, ap, ◌∙◌, subst, inl, inr, is_some, is_none, option_map, codes, if◌then◌else◌, arith}
use Rattle.std.specs.List.{cons_option, find}
use Rattle.std.specs.Ordering.{match_ordering}
use Rattle.std.specs.Prelude.{IsSome}
use Rattle.std.specs.Str.{bytes_eq}
use Rattle.std.specs.declared.cmp.Ordering.{Ordering}
use Rattle.std.specs.declared.cmp.Ordering.TheVariants.{Less, Equal, Greater}
use Rattle.std.proofs.lemmas.Bool.{cases_Bool, false≢true, ltb-false}
use Rattle.std.proofs.lemmas.List.Elements.{All-nil, All-cons}
use Rattle.std.proofs.lemmas.Slice.Eq.{bytes_eq-Decides}
use Rattle.event_tree.specs.Condition.{rules_of}
use Rattle.event_tree.specs.Keys.{key_of as key_of_pair}
use Rattle.event_tree.specs.Parts.{parts_of, empty_place}
use Rattle.event_tree.specs.Value.{TreeValue, str, int, flag, FieldList}
use Rattle.event_tree.specs.declared.condition_rule.Bounds.{Bounds}
use Rattle.event_tree.specs.declared.condition_rule.ConditionRule.{ConditionRule, out-ConditionRule}
use Rattle.event_tree.specs.declared.condition_rule.ConditionRule.TheOpen.{ConditionRule-F}
use Rattle.event_tree.specs.declared.condition_rule.ConditionRule.TheVariants as variant
use Rattle.event_tree.specs.declared.condition_rule.TextAt.{TextAt}
use Rattle.event_tree.specs.declared.condition_rules.ConditionRules.{ConditionRules}
use Rattle.patterns.specs.Pattern.{IsTextPattern}
use Rattle.toml.specs.Data.{Data, string, integer, float, boolean, datetime, array, table, Items, no_items, item, Members, no_members, member, get_member, as_str, as_integer, as_table, as_array}
use Rattle.wire_base.specs.KeyOrder.{compare, with_entry}
use Rattle.wire_base.proofs.Keyed.{All-with}
use Rattle.beat_config.specs.declared.condition.ConditionKind.{ConditionKind}
use Rattle.beat_config.specs.declared.condition.ConditionKind.TheVariants.{And, Contains, Equals, HasFields, Not, Or, Range, Regexp}
use Rattle.beat_config.specs.declared.settings_error.SettingsError.{SettingsError}
use Rattle.beat_config.specs.declared.settings_error.SettingsError.TheVariants.{BadText}
use Rattle.beat_config.specs.declared.text.Form.{Form}
use Rattle.beat_config.specs.declared.text.Form.TheVariants.{Any, FieldPath, TextPattern}
use Rattle.beat_config.specs.Conditions.{kinds, key_of, kind_of, table_body, paths_findings, list_findings, body_findings, found_findings, kind_findings, table_condition, levels_below_sixteen, most_levels, deep_findings, condition_findings, AreListed, IsBody, IsFound, IsOfKind, IsCondition}
use Rattle.rules_in_range.specs.Conditions.{IsFieldPath, IsScalarAt, IsTextAt, IsPatternAt, AreBoundsAt, AreSome, IsBodyInRange, IsConditionInRange}
use Rattle.beat_config.specs.Each.{each_findings, AreEach}
use Rattle.beat_config.specs.Pairs.{scalar_of, set_scalar, scalars_after, kind_findings as scalar_kind_findings, scalar_findings, scalars_findings, text_at, texts_at_in, text_at_findings, texts_at_findings, integer_of, number_findings, bound_findings, some_member_findings, some_item_findings, given_findings, bound_keys, bounds_at, bounds_of, bounds_in, bound_value_findings, bounds_findings, ranges_findings}
use Rattle.beat_config.specs.Path.{key_path, member_path}
use Rattle.beat_config.specs.Single.{name_place}
use Rattle.beat_config.specs.Table.{members_of, members_or_none, as_table_findings, table_findings, unknown_findings}
use Rattle.beat_config.specs.Text.{text_findings, found_findings as found_text_findings, value_findings, member_findings, list_texts, item_count}
use Rattle.beat_config.proofs.Conditions.{told}
use Rattle.beat_config.proofs.Faultless.{parts, passed, not_passed, texts_within}

-- ---- texts

pub field_path : (key text : List ℕ) → text_findings FieldPath key text ≡ [] → IsFieldPath text
field_path key text h = by_case (empty_place (parts_of text)) h
  where
    by_case : (place : Option ℕ) → (if is_none place then [] else BadText key ∷ []) ≡ [] → place ≡ None
    by_case None h = refl
    by_case (Some at) h = absurd (cc)

text_pattern : (key text : List ℕ) → text_findings TextPattern key text ≡ [] → IsTextPattern text
text_pattern key text h = passed _ _ h

-- ---- values at paths

with_some : (entry : List ℕ × TreeValue) (pairs : FieldList) → 0 < length (with_entry key_of_pair entry pairs)
with_some entry [] = omega arith
with_some entry (other ∷ pairs) = by_case (compare entry.0 other.0)
  where
    by_case : (o : Ordering) → 0 < length (match_ordering o (entry ∷ other ∷ pairs) (entry ∷ pairs) (other ∷ with_entry key_of_pair entry pairs))
    by_case Less = omega arith
    by_case Equal = omega arith
    by_case Greater = omega arith

some_set : (name : List ℕ) (value : Option TreeValue) (pairs : FieldList) → 0 < length pairs → 0 < length (set_scalar name value pairs)
some_set name None pairs some = some
some_set name (Some value) pairs some = with_some (name, value) pairs

some_after : (pairs : FieldList) (members : Members) → 0 < length pairs → 0 < length (scalars_after pairs members)
some_after pairs no_members some = some
some_after pairs (member name value members) some = some_after (set_scalar name (scalar_of value) pairs) members (some_set name (scalar_of value) pairs some)

-- what is set is the first of some pairs, or one more, and a scalar
set_within : (key name : List ℕ) (value : Data) (pairs : FieldList) → IsFieldPath name → scalar_kind_findings key (scalar_of value) ≡ [] → All IsScalarAt pairs
    → (0 < length (set_scalar name (scalar_of value) pairs)) × All IsScalarAt (set_scalar name (scalar_of value) pairs)
set_within key name (string text) pairs path h all = (with_some (name, str text) pairs, All-with key_of_pair IsScalarAt (name, str text) pairs (path, tt) all)
set_within key name (integer number) pairs path h all = (with_some (name, int number) pairs, All-with key_of_pair IsScalarAt (name, int number) pairs (path, tt) all)
set_within key name (float number) pairs path h all = absurd (cc)
set_within key name (boolean truth) pairs path h all = (with_some (name, flag truth) pairs, All-with key_of_pair IsScalarAt (name, flag truth) pairs (path, tt) all)
set_within key name (datetime date) pairs path h all = absurd (cc)
set_within key name (array items) pairs path h all = absurd (cc)
set_within key name (table held) pairs path h all = absurd (cc)

scalar_within : (key name : List ℕ) (value : Data) (pairs : FieldList) → scalar_findings key name value ≡ [] → All IsScalarAt pairs
    → (0 < length (set_scalar name (scalar_of value) pairs)) × All IsScalarAt (set_scalar name (scalar_of value) pairs)
unfolding scalar_findings
scalar_within key name value pairs h all =
    let both = parts (text_findings FieldPath key name) (scalar_kind_findings key (scalar_of value)) h in
    set_within key name value pairs (field_path key name both.0) both.1 all

scalars_within : (key : List ℕ) (pairs : FieldList) (members : Members) → scalars_findings key members ≡ [] → All IsScalarAt pairs
    → All IsScalarAt (scalars_after pairs members)
scalars_within key pairs no_members h all = all
scalars_within key pairs (member name value members) h all =
    let both = parts (scalar_findings (key_path key name) name value) (scalars_findings key members) h in
    scalars_within key (set_scalar name (scalar_of value) pairs) members both.1 (scalar_within (key_path key name) name value pairs both.0 all).1

equals_within : (key : List ℕ) (members : Members) → some_member_findings key members ++ scalars_findings key members ≡ []
    → AreSome IsScalarAt (scalars_after [] members)
equals_within key no_members h = absurd (cc)
equals_within key (member name value members) h =
    let both = parts (scalar_findings (key_path key name) name value) (scalars_findings key members) h in
    let first = scalar_within (key_path key name) name value [] both.0 (All-nil IsScalarAt) in (
      some_after (set_scalar name (scalar_of value) []) members first.0,
      scalars_within key (set_scalar name (scalar_of value) []) members both.1 first.1,
    )

-- ---- texts and patterns at paths

module _ (P : TextAt → Type 0) (form : Form) (each : (key name text : List ℕ) → IsFieldPath name → text_findings form key text ≡ [] → P (text_at name text)) where
  found_text : (key name : List ℕ) (found : Option (List ℕ)) (texts : List TextAt) → IsFieldPath name → found_text_findings form key found ≡ [] → All P texts
      → AreSome P (cons_option (option_map (text_at name) found) texts)
  found_text key name None texts path h all = absurd (cc)
  found_text key name (Some text) texts path h all = (omega arith, All-cons P (text_at name text) texts (each key name text path h) all)

  one_text : (key name : List ℕ) (value : Data) (texts : List TextAt) → text_at_findings form key name value ≡ [] → All P texts
      → AreSome P (cons_option (option_map (text_at name) (as_str value)) texts)
  unfolding text_at_findings
  one_text key name value texts h all =
      let both = parts (text_findings FieldPath key name) (value_findings form key value) h in
      found_text key name (as_str value) texts (field_path key name both.0) both.1 all

  all_texts : (key : List ℕ) (members : Members) → texts_at_findings form key members ≡ [] → All P (texts_at_in members)
  all_texts key no_members h = All-nil P
  all_texts key (member name value members) h =
      let both = parts (text_at_findings form (key_path key name) name value) (texts_at_findings form key members) h in
      (one_text (key_path key name) name value (texts_at_in members) both.0 (all_texts key members both.1)).1

  texts_at_within : (key : List ℕ) (members : Members) → some_member_findings key members ++ texts_at_findings form key members ≡ [] → AreSome P (texts_at_in members)
  texts_at_within key no_members h = absurd (cc)
  texts_at_within key (member name value members) h =
      let both = parts (text_at_findings form (key_path key name) name value) (texts_at_findings form key members) h in
      one_text (key_path key name) name value (texts_at_in members) both.0 (all_texts key members both.1)

-- ---- bounds at paths

number_some : (key : List ℕ) (value : Data) → number_findings key (as_integer value) ≡ [] → IsSome (as_integer value)
number_some key (string text) h = absurd (cc)
number_some key (integer number) h = refl
number_some key (float number) h = absurd (cc)
number_some key (boolean truth) h = absurd (cc)
number_some key (datetime date) h = absurd (cc)
number_some key (array items) h = absurd (cc)
number_some key (table held) h = absurd (cc)

-- the bound at a key that the table has
bound_some : (key name : List ℕ) (first : List ℕ) (value : Data) (members : Members) → bytes_eq name first ≡ true
    → get_member name (member name value members) ≡ Some value → bound_findings key (get_member name (member first value members)) ≡ []
    → IsSome (integer_of (get_member name (member first value members)))
bound_some key name first value members same there h =
    let is : first ≡ name = sym ((bytes_eq-Decides name first).0 same) in
    let found : get_member name (member first value members) ≡ Some value = ap (λ k. get_member name (member k value members)) is ∙ there in
    let told : number_findings key (as_integer value) ≡ [] = subst (λ o. bound_findings key o ≡ []) found h in
    subst (λ o. IsSome (integer_of o)) (sym found) (number_some key value told)

abbrev HasBound : Bounds → Type 0
HasBound bounds = IsSome bounds.lt ⊎ (IsSome bounds.lte ⊎ (IsSome bounds.gt ⊎ IsSome bounds.gte))

-- the first key of a table of known keys is one of them, and its value a bound
first_bound : (key name first : List ℕ) (value : Data) (members : Members) → is_some (name_place bound_keys first) ≡ true
    → bound_value_findings key (member first value members) ≡ [] → HasBound (bounds_at name (member first value members))
unfolding bounds_at bound_value_findings
first_bound key name first value members known h =
    let table = member first value members in
    let lt = parts (bound_findings (key_path key (codes "lt")) (get_member (codes "lt") table)) _ h in
    let lte = parts (bound_findings (key_path key (codes "lte")) (get_member (codes "lte") table)) _ lt.1 in
    let gt = parts (bound_findings (key_path key (codes "gt")) (get_member (codes "gt") table)) (bound_findings (key_path key (codes "gte")) (get_member (codes "gte") table)) lte.1 in
    elim (cases_Bool (bytes_eq (codes "lt") first)) [
      | inl is ↦ inl (bound_some _ (codes "lt") first value members is refl lt.0)
      | inr not_lt ↦ elim (cases_Bool (bytes_eq (codes "lte") first)) [
        | inl is ↦ inr (inl (bound_some _ (codes "lte") first value members is refl lte.0))
        | inr not_lte ↦ elim (cases_Bool (bytes_eq (codes "gt") first)) [
          | inl is ↦ inr (inr (inl (bound_some _ (codes "gt") first value members is refl gt.0)))
          | inr not_gt ↦ elim (cases_Bool (bytes_eq (codes "gte") first)) [
            | inl is ↦ inr (inr (inr (bound_some _ (codes "gte") first value members is refl gt.1)))
            | inr not_gte ↦ absurd (let wrong : false ≡ true = rw (not_lt, not_lte, not_gt, not_gte) at known in false≢true wrong)
          ]
        ]
      ]
    ]

table_bound : (key name : List ℕ) (found : Option Members) → as_table_findings key bound_keys [] found ≡ [] → given_findings key found ≡ []
    → bound_value_findings key (members_or_none found) ≡ [] → HasBound (bounds_at name (members_or_none found))
table_bound key name None keys given values = absurd (cc)
table_bound key name (Some no_members) keys given values = absurd (cc)
table_bound key name (Some (member first value members)) keys given values =
    let known = parts (unknown_findings key bound_keys (member first value members)) [] keys in
    let one = parts _ (unknown_findings key bound_keys members) known.0 in
    first_bound key name first value members (passed _ _ one.0) values

bounds_within : (key name : List ℕ) (value : Data) → bounds_findings key name value ≡ [] → AreBoundsAt (bounds_of name value)
unfolding bounds_findings bounds_of bounds_at
bounds_within key name value h =
    let path = parts (text_findings FieldPath key name) _ h in
    let keys = parts (table_findings key bound_keys [] value) _ path.1 in
    let given = parts (given_findings key (as_table value)) (bound_value_findings key (members_of value)) keys.1 in
    (field_path key name path.0, table_bound key name (as_table value) keys.0 given.0 given.1)

all_bounds : (key : List ℕ) (members : Members) → ranges_findings key members ≡ [] → All AreBoundsAt (bounds_in members)
all_bounds key no_members h = All-nil AreBoundsAt
all_bounds key (member name value members) h =
    let both = parts (bounds_findings (key_path key name) name value) (ranges_findings key members) h in
    All-cons AreBoundsAt (bounds_of name value) (bounds_in members) (bounds_within (key_path key name) name value both.0) (all_bounds key members both.1)

ranges_within : (key : List ℕ) (members : Members) → some_member_findings key members ++ ranges_findings key members ≡ [] → AreSome AreBoundsAt (bounds_in members)
ranges_within key no_members h = absurd (cc)
ranges_within key (member name value members) h = (omega arith, all_bounds key (member name value members) h)

-- ---- lists

some_count : (key : List ℕ) (items : Items) → some_item_findings key items ≡ [] → 0 < item_count items
some_count key no_items h = absurd (cc)
some_count key (item value items) h = omega arith

paths_within : (key : List ℕ) (found : Option Items) → paths_findings key found ≡ [] → AreSome IsFieldPath (list_texts found)
paths_within key None h = absurd (cc)
paths_within key (Some items) h =
    let both = parts (some_item_findings key items) (member_findings FieldPath key 0 items) h in
    let texts = texts_within IsFieldPath FieldPath field_path key 0 items both.1 in
    (subst (λ count. 0 < count) (sym texts.1) (some_count key items both.0), texts.0)

module _ {R : Type 0} (P : R → Type 0) (IsHere : Data → R → Type 0) (here : List ℕ → Data → List SettingsError) (each : (key : List ℕ) (value : Data) (rule : R) → here key value ≡ [] → IsHere value rule → P rule) where
  -- the rules of a list without a fault are as many as its members, each as its member says
  pub each_within : (key : List ℕ) (number : ℕ) (items : Items) (rules : List R) → each_findings here key number items ≡ [] → AreEach IsHere items rules
      → All P rules × (length rules ≡ item_count items)
  each_within key number no_items [] h are = (All-nil P, refl)
  each_within key number no_items (rule ∷ rules) h are = absurd are
  each_within key number (item value items) [] h are = absurd are
  each_within key number (item value items) (rule ∷ rules) h are =
      let both = parts (here (member_path key number) value) (each_findings here key (number + 1) items) h in
      let rest = each_within key (number + 1) items rules both.1 are.1 in
      (All-cons P rule rules (each (member_path key number) value rule both.0 are.0) rest.0, ap suc rest.1)

-- ---- one condition, by what is known of those within it

module _ (P : ConditionRule → Type 0) (IsHere : Data → ConditionRule → Type 0) (here : List ℕ → Data → List SettingsError) (each : (key : List ℕ) (value : Data) (rule : ConditionRule) → here key value ≡ [] → IsHere value rule → P rule) where
  list_within : (key : List ℕ) (found : Option Items) (rules : List ConditionRule) → list_findings here key found ≡ [] → AreListed IsHere found rules → AreSome P rules
  list_within key None rules h are = absurd (cc)
  list_within key (Some items) rules h are =
      let both = parts (some_item_findings key items) (each_findings here key 0 items) h in
      let all = each_within P IsHere here each key 0 items rules both.1 are in
      (subst (λ count. 0 < count) (sym all.1) (some_count key items both.0), all.0)

  equals_table : (key : List ℕ) (found : Option Members) → table_body key Equals found ≡ [] → AreSome IsScalarAt (scalars_after [] (members_or_none found))
  equals_table key None h = absurd (cc)
  equals_table key (Some members) h = equals_within key members h

  contains_table : (key : List ℕ) (found : Option Members) → table_body key Contains found ≡ [] → AreSome IsTextAt (texts_at_in (members_or_none found))
  contains_table key None h = absurd (cc)
  contains_table key (Some members) h = texts_at_within IsTextAt Any (λ key name text path told. path) key members h

  regexp_table : (key : List ℕ) (found : Option Members) → table_body key Regexp found ≡ [] → AreSome IsPatternAt (texts_at_in (members_or_none found))
  regexp_table key None h = absurd (cc)
  regexp_table key (Some members) h = texts_at_within IsPatternAt TextPattern (λ key name text path told. (path, text_pattern key text told)) key members h

  range_table : (key : List ℕ) (found : Option Members) → table_body key Range found ≡ [] → AreSome AreBoundsAt (bounds_in (members_or_none found))
  range_table key None h = absurd (cc)
  range_table key (Some members) h = ranges_within key members h

  made : (rule built : ConditionRule) (layer : ConditionRule-F ConditionRule ConditionRules) → rule ≡ built → out-ConditionRule built ≡ layer → IsBodyInRange P layer
      → IsBodyInRange P (out-ConditionRule rule)
  made rule built layer is opens h = subst (IsBodyInRange P) (sym (ap out-ConditionRule is ∙ opens)) h

  body_within : (key : List ℕ) (kind : ConditionKind) (value : Data) (rule : ConditionRule) → body_findings here key kind value ≡ [] → IsBody IsHere kind value rule
      → IsBodyInRange P (out-ConditionRule rule)
  body_within key And value rule h (rules, is, listed) = made rule _ _ is (variant.outs-And rules) (list_within key (as_array value) (rules_of rules) h listed)
  body_within key Or value rule h (rules, is, listed) = made rule _ _ is (variant.outs-Or rules) (list_within key (as_array value) (rules_of rules) h listed)
  body_within key Not value rule h (inner, is, within) = made rule _ _ is (variant.outs-Not inner) (each key value inner.value h within)
  body_within key HasFields value rule h is = made rule _ _ is (variant.outs-HasFields (list_texts (as_array value))) (paths_within key (as_array value) h)
  body_within key Equals value rule h is = made rule _ _ is (variant.outs-Equals (scalars_after [] (members_of value))) (equals_table key (as_table value) h)
  body_within key Contains value rule h is = made rule _ _ is (variant.outs-Contains (texts_at_in (members_of value))) (contains_table key (as_table value) h)
  body_within key Regexp value rule h is = made rule _ _ is (variant.outs-Regexp (texts_at_in (members_of value))) (regexp_table key (as_table value) h)
  body_within key Range value rule h is = made rule _ _ is (variant.outs-Range (bounds_in (members_of value))) (range_table key (as_table value) h)

  found_within : (key : List ℕ) (kind : ConditionKind) (found : Option Data) (rule : ConditionRule) → is_some found ≡ true → found_findings here key kind found ≡ []
      → IsFound IsHere kind found rule → IsBodyInRange P (out-ConditionRule rule)
  found_within key kind None rule there h is = absurd (cc)
  found_within key kind (Some value) rule there h is = body_within key kind value rule h is

  kind_within : (key : List ℕ) (members : Members) (found : Option ConditionKind) (rule : ConditionRule)
      → ((kind : ConditionKind) → found ≡ Some kind → is_some (get_member (key_of kind) members) ≡ true)
      → kind_findings here key members found ≡ [] → IsOfKind IsHere members found rule → IsBodyInRange P (out-ConditionRule rule)
  kind_within key members None rule there h is = absurd (let missing = (parts (unknown_findings key [] members) _ h).1 in cc)
  kind_within key members (Some kind) rule there h is =
      let both = parts (unknown_findings key (key_of kind ∷ []) members) (found_findings here (key_path key (key_of kind)) kind (get_member (key_of kind) members)) h in
      found_within (key_path key (key_of kind)) kind (get_member (key_of kind) members) rule (there kind refl) both.1 is

-- what a search finds passes
pub find_passes : {X : Type 0} (p : X → Bool) (xs : List X) (x : X) → find p xs ≡ Some x → p x ≡ true
find_passes {X} p [] x e = absurd (cc)
find_passes {X} p (y ∷ xs) x e = elim (cases_Bool (p y)) [
  | inl holds ↦ let found = rw holds at e in let same : y ≡ x = cc in subst (λ z. p z ≡ true) same holds
  | inr fails ↦ let found = rw fails at e in find_passes p xs x found
]

has_kind : (members : Members) (kind : ConditionKind) → kind_of members ≡ Some kind → is_some (get_member (key_of kind) members) ≡ true
unfolding kind_of
has_kind members kind e = find_passes (λ one. is_some (get_member (key_of one) members)) kinds kind e

-- ---- conditions by their depth

module _ (P : ConditionRule → Type 0) (levels : ℕ) (each : (key : List ℕ) (value : Data) (rule : ConditionRule) → condition_findings levels key value ≡ [] → IsCondition levels value rule → P rule) where
  table_within : (key : List ℕ) (found : Option Members) (rule : ConditionRule) → table_condition (condition_findings levels) key found ≡ []
      → IsOfKind (IsCondition levels) (members_or_none found) (kind_of (members_or_none found)) rule → IsBodyInRange P (out-ConditionRule rule)
  table_within key None rule h is = absurd (cc)
  table_within key (Some members) rule h is =
      kind_within P (IsCondition levels) (condition_findings levels) each key members (kind_of members) rule (has_kind members) h is

not_deep : (key : List ℕ) (levels : ℕ) → deep_findings levels key ≡ [] → levels < levels_below_sixteen → ⊥
unfolding deep_findings
not_deep key levels h few = let above = ltb-false levels levels_below_sixteen (not_passed _ _ h) in omega (arith, above, few)

one_level : (levels : ℕ) (value : Data) (rule : ConditionRule) → IsCondition (suc levels) value rule
    → IsOfKind (IsCondition levels) (members_of value) (kind_of (members_of value)) rule
unfolding IsCondition
one_level levels value rule is = is

within : (depth levels : ℕ) → levels ≡ levels_below_sixteen + depth → (key : List ℕ) (value : Data) (rule : ConditionRule)
    → condition_findings levels key value ≡ [] → IsCondition levels value rule → IsConditionInRange depth rule
unfolding IsConditionInRange
within zero levels is key value rule h of_value =
    let less : levels ≡ suc 143 = omega (arith, is) in
    let deep = parts (deep_findings 143 key) _ (sym (told levels 143 key value less) ∙ h) in
    absurd (not_deep key 143 deep.0 (omega arith))
within (suc depth) levels is key value rule h of_value =
    let left = levels_below_sixteen + depth in
    let less : levels ≡ suc left = omega (arith, is) in
    let both = parts (deep_findings left key) (table_condition (condition_findings left) key (as_table value)) (sym (told levels left key value less) ∙ h) in
    table_within (IsConditionInRange depth) left (within depth left refl) key (as_table value) rule both.1
    (one_level left value rule (subst (λ n. IsCondition n value rule) less of_value))

pub condition_within : (key : List ℕ) (value : Data) (rule : ConditionRule) → condition_findings most_levels key value ≡ [] → IsCondition most_levels value rule
    → IsConditionInRange 16 rule
condition_within key value rule h is = within 16 most_levels refl key value rule h is
