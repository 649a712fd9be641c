-- The processors of a document without a fault are of their form.
use Rattle.std.proofs.Common.{◌≡◌, ℕ, ◌+◌, true, List, [], ◌∷◌, All, Option, Some, None, refl, sym, subst, inl, inr, is_some, unwrap_or, codes}
use Rattle.std.specs.Option.{IfSome}
use Rattle.std.proofs.lemmas.List.Elements.{All-nil, All-cons, recursion_from_All}
use Rattle.std.specs.List.{AllByRecursion}
use Rattle.event_tree.specs.Keys.{key_of as key_of_pair, set_field}
use Rattle.event_tree.specs.Value.{FieldList, as_values, as_members}
use Rattle.event_tree.specs.declared.condition_rule.ConditionRule.{ConditionRule}
use Rattle.event_tree.specs.declared.processor_rule.ProcessorRule.{ProcessorRule}
use Rattle.toml.specs.Data.{Data, string, integer, float, boolean, datetime, array, table, Items, no_items, item, Members, no_members, member, get_member, as_table, as_array}
use Rattle.wire_base.proofs.Keyed.{All-with}
use Rattle.beat_config.specs.declared.processor.ProcessorKind.{ProcessorKind}
use Rattle.beat_config.specs.declared.processor.ProcessorKind.TheVariants.{AddFields, AddTags, DropEvent, DropFields, Rename}
use Rattle.beat_config.specs.declared.text.Form.TheVariants.{FieldPath, Target}
use Rattle.rules_in_range.specs.Conditions.{IsFieldPath}
use Rattle.beat_config.specs.Path.{key_path, member_path}
use Rattle.beat_config.specs.Processors.{kinds, key_of, kind_of, known_of, required_of, when_findings, IsWhen, added_findings, fields_findings, pair_of, pair_findings, pairs_in, pair_item_findings, pair_list_findings, list_pairs, pairs_of, pairs_findings, value_findings, IsOfKind, IsProcessorIn, processor_value_findings, IsKindIn, IsProcessor, of_kind_findings, kind_findings, as_processor_findings, processor_findings}
use Rattle.rules_in_range.specs.Processors.{IsSettingsValue, AreSettingsValues, AreSettingsMembers, IsAddedPair, IsTarget, IsRenaming, IsWhenInRange, IsProcessorInRange}
use Rattle.beat_config.specs.Single.{flag_findings}
use Rattle.beat_config.specs.Table.{members_of, members_at, members_or_none, missing_findings, table_findings, table_at_findings, unknown_findings}
use Rattle.beat_config.specs.Text.{text_findings, text_of, key_findings}
use Rattle.beat_config.specs.Tree.{tree_of, trees_in, fields_after, tree_findings, tree_item_findings, tree_member_findings}
use Rattle.beat_config.proofs.Faultless.{parts, required, table_required}
use Rattle.beat_config.proofs.RangesOfConditions.{field_path, condition_within, find_passes}
use Rattle.beat_config.proofs.RangesOfInputs.{few_texts, text_at, required_text}

-- ---- the values that are added

members_are : (pairs : FieldList) → AllByRecursion IsAddedPair pairs → AreSettingsMembers (as_members pairs)
members_are [] all = tt
members_are (pair ∷ pairs) all = (all.0, members_are pairs all.1)

mutual
  tree_is : (key : List ℕ) (value : Data) → tree_findings key value ≡ [] → IsSettingsValue (tree_of value)
  tree_is key (string text) h = tt
  tree_is key (integer number) h = tt
  tree_is key (float number) h = absurd (cc)
  tree_is key (boolean truth) h = tt
  tree_is key (datetime date) h = absurd (cc)
  tree_is key (array items) h = trees_are key 0 items h
  tree_is key (table members) h = members_are (fields_after [] members) (recursion_from_All IsAddedPair (fields_after [] members) (fields_are key [] members h (All-nil IsAddedPair)))

  trees_are : (key : List ℕ) (number : ℕ) (items : Items) → tree_item_findings key number items ≡ [] → AreSettingsValues (as_values (trees_in items))
  trees_are key number no_items h = tt
  trees_are key number (item value items) h =
      let both = parts (tree_findings (member_path key number) value) (tree_item_findings key (number + 1) items) h in
      (tree_is (member_path key number) value both.0, trees_are key (number + 1) items both.1)

  fields_are : (key : List ℕ) (pairs : FieldList) (members : Members) → tree_member_findings key members ≡ [] → All IsAddedPair pairs → All IsAddedPair (fields_after pairs members)
  fields_are key pairs no_members h all = all
  fields_are key pairs (member name value members) h all =
      let both = parts (tree_findings (key_path key name) value) (tree_member_findings key members) h in
      fields_are key (set_field name (tree_of value) pairs) members both.1
      (All-with key_of_pair IsAddedPair (name, tree_of value) pairs (tree_is (key_path key name) value both.0) all)

added_are : (key : List ℕ) (found : Option Members) → added_findings key found ≡ [] → All IsAddedPair (fields_after [] (members_or_none found))
added_are key None h = absurd (cc)
added_are key (Some members) h = fields_are key [] members h (All-nil IsAddedPair)

fields_at : (key : List ℕ) (found : Option Data) → fields_findings key found ≡ [] → All IsAddedPair (fields_after [] (members_at found))
fields_at key None h = All-nil IsAddedPair
fields_at key (Some value) h = added_are key (as_table value) h

-- ---- targets and pairs

target : (key text : List ℕ) → text_findings Target key text ≡ [] → IsTarget text
target key [] h = inl refl
target key (byte ∷ text) h = inr (field_path key (byte ∷ text) h)

or_else : (P : List ℕ → Type 0) (found : Option (List ℕ)) (default : List ℕ) → IfSome found P → P default → P (unwrap_or found default)
or_else P None default h there = there
or_else P (Some text) default h there = h

pair_is : (key : List ℕ) (value : Data) → pair_findings key value ≡ [] → IsRenaming (pair_of value)
unfolding pair_findings
pair_is key value h =
    let members = members_of value in
    let keys = parts (table_findings key (codes "from" ∷ codes "to" ∷ []) (codes "from" ∷ codes "to" ∷ []) value) _ h in
    let from = parts (key_findings FieldPath (key_path key (codes "from")) (get_member (codes "from") members)) (key_findings FieldPath (key_path key (codes "to")) (get_member (codes "to") members)) keys.1 in
    let has_from = required key (codes "from") (codes "to" ∷ []) members (table_required key (codes "from" ∷ codes "to" ∷ []) (codes "from" ∷ codes "to" ∷ []) value keys.0) in
    let has_to = required key (codes "to") [] members has_from.1 in
    record {
      from = required_text IsFieldPath FieldPath field_path (key_path key (codes "from")) (get_member (codes "from") members) has_from.0 from.0;
      to = required_text IsFieldPath FieldPath field_path (key_path key (codes "to")) (get_member (codes "to") members) has_to.0 from.1;
    }

pairs_are : (key : List ℕ) (number : ℕ) (items : Items) → pair_item_findings key number items ≡ [] → All IsRenaming (pairs_in items)
pairs_are key number no_items h = All-nil IsRenaming
pairs_are key number (item value items) h =
    let both = parts (pair_findings (member_path key number) value) (pair_item_findings key (number + 1) items) h in
    All-cons IsRenaming (pair_of value) (pairs_in items) (pair_is (member_path key number) value both.0) (pairs_are key (number + 1) items both.1)

pair_list : (key : List ℕ) (found : Option Items) → pair_list_findings key found ≡ [] → All IsRenaming (list_pairs found)
pair_list key None h = absurd (cc)
pair_list key (Some items) h = pairs_are key 0 items h

pairs_at : (key : List ℕ) (found : Option Data) → pairs_findings key found ≡ [] → All IsRenaming (pairs_of found)
pairs_at key None h = All-nil IsRenaming
pairs_at key (Some value) h = pair_list key (as_array value) h

-- ---- the rule of each kind

when_within : (key : List ℕ) (found : Option Data) (when : Option ConditionRule) → when_findings key found ≡ [] → IsWhen found when → IsWhenInRange when
when_within key None None h is = tt
when_within key None (Some rule) h is = absurd is
when_within key (Some value) None h is = absurd is
when_within key (Some value) (Some rule) h is = condition_within key value rule h is

has_when : (found : Option Data) → is_some found ≡ true → IsWhen found None → ⊥
has_when None there is = absurd (cc)
has_when (Some value) there is = is

kind_within : (kind : ProcessorKind) (key : List ℕ) (inner : Members) (when : Option ConditionRule) (rule : ProcessorRule)
    → missing_findings key (required_of kind) inner ≡ [] → IsWhen (get_member (codes "when") inner) when → IsWhenInRange when
    → value_findings kind key inner ≡ [] → IsOfKind kind inner when rule → IsProcessorInRange rule
unfolding value_findings
kind_within AddFields key inner when rule there asked within h is =
    let both = parts (fields_findings (key_path key (codes "fields")) (get_member (codes "fields") inner)) (key_findings Target (key_path key (codes "target")) (get_member (codes "target") inner)) h in
    subst IsProcessorInRange (sym is) (
      fields_at (key_path key (codes "fields")) (get_member (codes "fields") inner) both.0,
      or_else IsTarget (text_of (get_member (codes "target") inner)) (codes "fields") (text_at IsTarget Target target (key_path key (codes "target")) (get_member (codes "target") inner) both.1) (inr refl),
      within,
    )
kind_within AddTags key inner when rule there asked within h is =
    let both = parts _ (key_findings FieldPath (key_path key (codes "target")) (get_member (codes "target") inner)) h in
    subst IsProcessorInRange (sym is) (
      or_else IsFieldPath (text_of (get_member (codes "target") inner)) (codes "tags") (text_at IsFieldPath FieldPath field_path (key_path key (codes "target")) (get_member (codes "target") inner) both.1) refl,
      within,
    )
kind_within DropEvent key inner None rule there asked within h is =
    absurd (has_when (get_member (codes "when") inner) (required key (codes "when") [] inner there).0 asked)
kind_within DropEvent key inner (Some when) rule there asked within h is = subst IsProcessorInRange (sym is) within
kind_within DropFields key inner when rule there asked within h is =
    let both = parts _ (flag_findings (key_path key (codes "ignore_missing")) (get_member (codes "ignore_missing") inner)) h in
    subst IsProcessorInRange (sym is) (
      (few_texts IsFieldPath FieldPath field_path 9223372036854775807 (key_path key (codes "fields")) (get_member (codes "fields") inner) both.0).0,
      within,
    )
kind_within Rename key inner when rule there asked within h is =
    let both = parts (pairs_findings (key_path key (codes "fields")) (get_member (codes "fields") inner)) _ h in
    subst IsProcessorInRange (sym is) (pairs_at (key_path key (codes "fields")) (get_member (codes "fields") inner) both.0, within)

-- ---- one processor

table_keys : (key : List ℕ) (known keys : List (List ℕ)) (found : Option Data) → is_some found ≡ true → table_at_findings key known keys found ≡ []
    → missing_findings key keys (members_at found) ≡ []
table_keys key known keys None there h = absurd (cc)
table_keys key known keys (Some value) there h = table_required key known keys value h

in_within : (kind : ProcessorKind) (key : List ℕ) (members : Members) (rule : ProcessorRule) → missing_findings key (required_of kind) members ≡ []
    → processor_value_findings kind key members ≡ [] → IsProcessorIn kind members rule → IsProcessorInRange rule
unfolding processor_value_findings IsProcessorIn
in_within kind key members rule there h (when, asked, is) =
    let both = parts (when_findings (key_path key (codes "when")) (get_member (codes "when") members)) (value_findings kind key members) h in
    kind_within kind key members when rule there asked (when_within (key_path key (codes "when")) (get_member (codes "when") members) when both.0 asked) both.1 is

of_kind_within : (key : List ℕ) (kind : ProcessorKind) (members : Members) (rule : ProcessorRule) → is_some (get_member (key_of kind) members) ≡ true
    → of_kind_findings key kind members ≡ [] → IsProcessorIn kind (members_at (get_member (key_of kind) members)) rule → IsProcessorInRange rule
unfolding of_kind_findings
of_kind_within key kind members rule there h is =
    let found = get_member (key_of kind) members in
    let path = key_path key (key_of kind) in
    let both = parts (table_at_findings path (known_of kind) (required_of kind) found) (processor_value_findings kind path (members_at found)) h in
    in_within kind path (members_at found) rule (table_keys path (known_of kind) (required_of kind) found there both.0) both.1 is

found_within : (key : List ℕ) (members : Members) (found : Option ProcessorKind) (rule : ProcessorRule)
    → ((kind : ProcessorKind) → found ≡ Some kind → is_some (get_member (key_of kind) members) ≡ true)
    → kind_findings key members found ≡ [] → IsKindIn members found rule → IsProcessorInRange rule
found_within key members None rule there h is = absurd (let missing = (parts (unknown_findings key [] members) _ h).1 in cc)
found_within key members (Some kind) rule there h is =
    let both = parts (unknown_findings key (key_of kind ∷ []) members) (of_kind_findings key kind members) h in
    of_kind_within key kind members rule (there kind refl) both.1 is

has_kind : (members : Members) (kind : ProcessorKind) → kind_of members ≡ Some kind → is_some (get_member (key_of kind) members) ≡ true
unfolding kind_of
has_kind members kind e = find_passes (λ one. is_some (get_member (key_of one) members)) kinds kind e

table_within : (key : List ℕ) (found : Option Members) (rule : ProcessorRule) → as_processor_findings key found ≡ []
    → IsKindIn (members_or_none found) (kind_of (members_or_none found)) rule → IsProcessorInRange rule
table_within key None rule h is = absurd (cc)
table_within key (Some members) rule h is = found_within key members (kind_of members) rule (has_kind members) h is

pub processor_within : (key : List ℕ) (value : Data) (rule : ProcessorRule) → processor_findings key value ≡ [] → IsProcessor value rule → IsProcessorInRange rule
unfolding processor_findings IsProcessor
processor_within key value rule h is = table_within key (as_table value) rule h is
