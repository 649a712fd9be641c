-- The inputs of a document without a fault are within their ranges, and no two have the same id.
use Rattle.std.proofs.Common.{◌≡◌, ◌≢◌, ℕ, ◌+◌, ◌≤◌, ◌==◌, suc, true, false, List, [], ◌∷◌, ◌++◌, length, All, AllPairs, Option, Some, None, IfSome, refl, sym, ap, subst, ◌∙◌, inl, inr, is_some, unwrap_or, codes, arith}
use Rattle.std.specs.Int.{IsInRange}
use Rattle.std.specs.List.{list_any}
use Rattle.std.specs.Str.{bytes_eq}
use Rattle.std.proofs.lemmas.Bool.{or_parts, cases_Bool, false≢true}
use Rattle.std.proofs.lemmas.List.Elements.{All-nil, All-cons}
use Rattle.std.proofs.lemmas.List.Folds.{list_any-append}
use Rattle.std.proofs.lemmas.List.Kept.{AllPairs-cons}
use Rattle.std.proofs.lemmas.Slice.Eq.{bytes_eq-Decides}
use Rattle.event_tree.specs.declared.input_rule.InputRule.{InputRule}
use Rattle.toml.specs.Data.{Data, Items, no_items, item, Members, get_member, as_str, as_array}
use Rattle.beat_config.specs.declared.text.Form.{Form}
use Rattle.beat_config.specs.declared.text.Form.TheVariants.{Id, Glob, LinePattern}
use Rattle.glob_paths.specs.declared.error.GlobError.{GlobError}
use Rattle.glob_paths.specs.Fault.{fault_of}
use Rattle.patterns.specs.Pattern.{IsLinePattern}
use Rattle.beat_config.specs.InRange.{IsMessageLimit, IsGlob, IsIdentityInRange, IsGroupInRange, IsInputInRange}
use Rattle.beat_config.specs.Input.{input_keys, identities, terminators, identity_at, identity_in, identity_of, identity_findings, id_in, message_max_bytes_in, input_in, repeated_findings, input_value_findings, input_findings, inputs_in, inputs_item_findings, inputs_list_findings, list_inputs, inputs_of, inputs_findings}
use Rattle.beat_config.specs.Multiline.{count_in, pattern_in, pattern_value_findings, pattern_keys, is_count, group_in, group_of, group_findings, group_value_findings, pattern_table_findings}
use Rattle.beat_config.specs.Name.{IsName}
use Rattle.beat_config.specs.Path.{key_path, member_path}
use Rattle.beat_config.specs.Single.{limits, choice_of, choice_findings, flag_findings, whole_of, whole_findings}
use Rattle.beat_config.specs.Table.{members_of, members_at}
use Rattle.beat_config.specs.Times.{times_in, times_findings}
use Rattle.beat_config.specs.Text.{glob_findings, text_findings, text_of, found_findings, key_findings, items_findings, texts_of, list_texts, texts_findings, item_count, member_findings}
use Rattle.beat_config.proofs.Faultless.{parts, passed, required, table_required, count_within, texts_within}
use Rattle.beat_config.proofs.Ranges.{whole_within, time_within, name_of}
use Rattle.beat_config.proofs.RangesOfTimes.{within, late, clean_told}

-- texts of each form
glob_of : (key : List ℕ) (fault : Option GlobError) → glob_findings key fault ≡ [] → fault ≡ None
glob_of key None h = refl
glob_of key (Some fault) h = absurd (cc)

is_glob : (key text : List ℕ) → text_findings Glob key text ≡ [] → IsGlob text
is_glob key text h = glob_of key (fault_of text) h

is_line_pattern : (key text : List ℕ) → text_findings LinePattern key text ≡ [] → IsLinePattern text
is_line_pattern key text h = passed _ _ h

is_id : (key text : List ℕ) → text_findings Id key text ≡ [] → IsName 64 text
is_id key text h = name_of 64 text (passed _ _ h)

module _ (P : List ℕ → Type 0) (form : Form) (each : (key text : List ℕ) → text_findings form key text ≡ [] → P text) where
  list_within : (low high : ℕ) (key : List ℕ) (found : Option Items) → items_findings form (limits low high) key found ≡ []
      → All P (list_texts found) × IsInRange low high (length (list_texts found))
  list_within low high key None h = absurd (cc)
  list_within low high key (Some items) h =
      let both = parts _ (member_findings form key 0 items) h in
      let members = texts_within P form each key 0 items both.1 in
      (members.0, subst (IsInRange low high) (sym members.1) (count_within low high key (item_count items) both.0))

  -- a list at a key that is required
  some_texts : (low high : ℕ) (key : List ℕ) (found : Option Data) → is_some found ≡ true → texts_findings form (limits low high) key found ≡ []
      → All P (texts_of found) × IsInRange low high (length (texts_of found))
  some_texts low high key None there h = absurd (cc)
  some_texts low high key (Some value) there h = list_within low high key (as_array value) h

  -- a list at a key that may be absent
  pub few_texts : (high : ℕ) (key : List ℕ) (found : Option Data) → texts_findings form (limits 0 high) key found ≡ []
      → All P (texts_of found) × (length (texts_of found) ≤ high)
  few_texts high key None h = (All-nil P, omega arith)
  few_texts high key (Some value) h = let both = list_within 0 high key (as_array value) h in (both.0, both.1.1)

  text_within : (key : List ℕ) (found : Option (List ℕ)) → found_findings form key found ≡ [] → (is_some found ≡ true) × IfSome found P
  text_within key None h = absurd (cc)
  text_within key (Some text) h = (refl, each key text h)

  pub text_at : (key : List ℕ) (found : Option Data) → key_findings form key found ≡ [] → IfSome (text_of found) P
  text_at key None h = tt
  text_at key (Some value) h = (text_within key (as_str value) h).1

  text_there : (key : List ℕ) (found : Option Data) → is_some found ≡ true → key_findings form key found ≡ [] → is_some (text_of found) ≡ true
  text_there key None there h = absurd (cc)
  text_there key (Some value) there h = (text_within key (as_str value) h).0

  or_empty_within : (found : Option (List ℕ)) → is_some found ≡ true → IfSome found P → P (unwrap_or found [])
  or_empty_within None there h = absurd (cc)
  or_empty_within (Some text) there h = h

  pub required_text : (key : List ℕ) (found : Option Data) → is_some found ≡ true → key_findings form key found ≡ [] → P (unwrap_or (text_of found) [])
  required_text key found there h = or_empty_within (text_of found) (text_there key found there h) (text_at key found h)

-- the identity
identity_within : (place offset count : ℕ) → IsInRange 0 1048576 offset → IsInRange 64 1048576 count → IsIdentityInRange (identity_at place offset count)
identity_within place offset count at_offset at_count = elim (cases_Bool (place == 1)) [
  | inl native ↦ rw native tt
  | inr other ↦ elim (cases_Bool (place == 2)) [
    | inl path ↦ rw (other, path) tt
    | inr fingerprint ↦ rw (other, fingerprint) (at_offset.1, at_count)
  ]
]

identity_is : (members : Members) → IsIdentityInRange (identity_of members)
unfolding identity_of identity_in
identity_is members =
    let fingerprint = members_at (get_member (codes "fingerprint") members) in
    identity_within (choice_of identities 0 (get_member (codes "file_identity") members))
    (whole_of (limits 0 1048576) 0 (get_member (codes "offset") fingerprint))
    (whole_of (limits 64 1048576) 1024 (get_member (codes "length") fingerprint))
    (whole_within 0 1048576 0 (codes "offset") fingerprint refl)
    (whole_within 64 1048576 1024 (codes "length") fingerprint refl)

limit_is : (members : Members) → IsMessageLimit (message_max_bytes_in members)
limit_is members = whole_within 1 16777216 10485760 (codes "message_max_bytes") members refl

-- the group rule
count_is : (limit : ℕ) (members : Members) → IsMessageLimit limit → IsGroupInRange (count_in limit members)
unfolding count_in
count_is limit members h = (h, whole_within 1 1000000 500 (codes "max_lines") members refl, time_within 1 86400000 5000 (codes "timeout") members refl, whole_within 1 1000000 1 (codes "count_lines") members refl)

pattern_is : (limit : ℕ) (path : List ℕ) (members : Members) → IsMessageLimit limit → is_some (get_member (codes "pattern") members) ≡ true
    → pattern_value_findings path members ≡ [] → IsGroupInRange (pattern_in limit members)
unfolding pattern_in pattern_value_findings
pattern_is limit path members h there findings =
    let behind_type = (parts _ _ findings).1 in
    let pattern = parts _ _ behind_type in
    let negate = parts _ _ pattern.1 in
    let side = parts _ _ negate.1 in
    let flush = parts _ _ side.1 in (
      h,
      whole_within 1 1000000 500 (codes "max_lines") members refl,
      time_within 1 86400000 5000 (codes "timeout") members refl,
      required_text IsLinePattern LinePattern is_line_pattern (key_path path (codes "pattern")) (get_member (codes "pattern") members) there pattern.0,
      text_at IsLinePattern LinePattern is_line_pattern (key_path path (codes "flush_pattern")) (get_member (codes "flush_pattern") members) flush.0,
    )

pattern_table_is : (limit : ℕ) (path : List ℕ) (value : Data) → IsMessageLimit limit → pattern_table_findings path value ≡ []
    → IsGroupInRange (pattern_in limit (members_of value))
pattern_table_is limit path value h findings =
    let both = parts _ (pattern_value_findings path (members_of value)) findings in
    let keys = table_required path pattern_keys (codes "pattern" ∷ codes "match" ∷ []) value both.0 in
    pattern_is limit path (members_of value) h (required path (codes "pattern") (codes "match" ∷ []) (members_of value) keys).0 both.1

group_is : (limit : ℕ) (path : List ℕ) (value : Data) → IsMessageLimit limit → group_value_findings path value ≡ [] → IsGroupInRange (group_in limit value)
group_is limit path value h findings = elim (cases_Bool (is_count value)) [
  | inl count ↦ rw count (count_is limit (members_of value) h)
  | inr pattern ↦ let told = rw pattern at findings in rw pattern (pattern_table_is limit path value h told)
]

group_at : (limit : ℕ) (path : List ℕ) (found : Option Data) → IsMessageLimit limit → group_findings path found ≡ [] → IsGroupInRange (group_of limit found)
unfolding group_of group_findings
group_at limit path None h findings = h
group_at limit path (Some value) h findings = group_is limit path value h findings

-- one input
input_is : (path : List ℕ) (members : Members) → is_some (get_member (codes "id") members) ≡ true → is_some (get_member (codes "paths") members) ≡ true
    → input_value_findings path members ≡ [] → IsInputInRange (input_in members)
unfolding input_in id_in input_value_findings
input_is path members id_there paths_there findings =
    let id = parts _ _ findings in
    let paths = parts _ _ id.1 in
    let identity = parts (identity_findings path members) _ paths.1 in
    let times = parts (times_findings path members) _ identity.1 in
    let removed = parts (flag_findings (key_path path (codes "clean_removed")) (get_member (codes "clean_removed") members)) _ times.1 in
    let terminator = parts (choice_findings terminators (key_path path (codes "line_terminator")) (get_member (codes "line_terminator") members)) _ removed.1 in
    let limit = parts (whole_findings (limits 1 16777216) (key_path path (codes "message_max_bytes")) (get_member (codes "message_max_bytes") members)) _ terminator.1 in
    let included = parts _ _ limit.1 in
    let excluded = parts _ _ included.1 in
    let are = within members in
    let globs = some_texts IsGlob Glob is_glob 1 64 (key_path path (codes "paths")) (get_member (codes "paths") members) paths_there paths.0 in
    let includes = few_texts IsLinePattern LinePattern is_line_pattern 64 (key_path path (codes "include_lines")) (get_member (codes "include_lines") members) included.0 in
    let excludes = few_texts IsLinePattern LinePattern is_line_pattern 64 (key_path path (codes "exclude_lines")) (get_member (codes "exclude_lines") members) excluded.0 in
    record {
      id = required_text (IsName 64) Id is_id (key_path path (codes "id")) (get_member (codes "id") members) id_there id.0;
      path_count = globs.1;
      paths = globs.0;
      file_identity = identity_is members;
      check_interval = are.check_interval;
      close_inactive = are.close_inactive;
      ignore_older = are.ignore_older;
      clean_inactive = are.clean_inactive;
      cleaned_late = late path (times_in members) (clean_told path members times.0);
      message_max_bytes = limit_is members;
      include_count = includes.1;
      include_lines = includes.0;
      exclude_count = excludes.1;
      exclude_lines = excludes.0;
      multiline = group_at (message_max_bytes_in members) (key_path path (codes "multiline")) (get_member (codes "multiline") members) (limit_is members) excluded.1;
    }

-- none of these ids is that id
abbrev IsNew : List (List ℕ) → List ℕ → Type 0
IsNew ids id = list_any (λ earlier. bytes_eq earlier id) ids ≡ false

is_new_text : (key : List ℕ) (ids : List (List ℕ)) (found : Option (List ℕ)) → is_some found ≡ true → repeated_findings key ids found ≡ []
    → IsNew ids (unwrap_or found [])
unfolding repeated_findings
is_new_text key ids None there h = absurd (cc)
is_new_text key ids (Some id) there h = elim (cases_Bool (list_any (λ earlier. bytes_eq earlier id) ids)) [
  | inl old ↦ absurd (let wrong = rw old at h in cc)
  | inr new ↦ new
]

-- what an input without a fault after these ids is
record IsNewInput (ids : List (List ℕ)) (rule : InputRule) : Type 0 where
  within : IsInputInRange rule
  new : IsNew ids rule.id

input_behind : (path : List ℕ) (ids : List (List ℕ)) (value : Data) → input_findings path ids value ≡ [] → IsNewInput ids (input_in (members_of value))
unfolding input_findings input_value_findings input_in id_in
input_behind path ids value h =
    let members = members_of value in
    let table = parts _ _ h in
    let values = parts _ _ table.1 in
    let id = required path (codes "id") (codes "paths" ∷ []) members (table_required path input_keys (codes "id" ∷ codes "paths" ∷ []) value table.0) in
    let paths = required path (codes "paths") [] members id.1 in
    let told = text_there (IsName 64) Id is_id (key_path path (codes "id")) (get_member (codes "id") members) id.0 (parts _ _ values.1).0 in
    record {
      within = input_is path members id.0 paths.0 values.1;
      new = is_new_text (key_path path (codes "id")) ids (text_of (get_member (codes "id") members)) told values.0;
    }

-- what inputs without a fault after these ids are
record AreNewInputs (ids : List (List ℕ)) (count : ℕ) (rules : List InputRule) : Type 0 where
  within : All IsInputInRange rules
  new : All (λ rule. IsNew ids rule.id) rules
  differ : AllPairs (λ earlier later. earlier.id ≢ later.id) rules
  many : length rules ≡ count

new_parts : (ids : List (List ℕ)) (id other : List ℕ) → IsNew (ids ++ id ∷ []) other → IsNew ids other × (id ≢ other)
new_parts ids id other h =
    let both = or_parts _ _ (sym (list_any-append (λ earlier. bytes_eq earlier other) ids (id ∷ [])) ∙ h) in
    let apart = or_parts (bytes_eq id other) false both.1 in
    (both.0, λ same. false≢true (sym apart.0 ∙ (bytes_eq-Decides id other).1 same))

no_pairs : AllPairs {X = InputRule} (λ earlier later. earlier.id ≢ later.id) []
no_pairs i j default before inside = absurd (omega (arith, inside))

inputs_behind : (key : List ℕ) (number : ℕ) (ids : List (List ℕ)) (items : Items) → inputs_item_findings key number ids items ≡ []
    → AreNewInputs ids (item_count items) (inputs_in items)
unfolding input_in
inputs_behind key number ids no_items h =
    record { within = All-nil IsInputInRange; new = All-nil (λ (rule : InputRule). IsNew ids rule.id); differ = no_pairs; many = refl }
inputs_behind key number ids (item value items) h =
    let id = id_in (members_of value) in
    let rule = input_in (members_of value) in
    let both = parts _ (inputs_item_findings key (number + 1) (ids ++ id ∷ []) items) h in
    let one = input_behind (member_path key number) ids value both.0 in
    let rest = inputs_behind key (number + 1) (ids ++ id ∷ []) items both.1 in
    record {
      within = All-cons IsInputInRange rule (inputs_in items) one.within rest.within;
      new = All-cons (λ (other : InputRule). IsNew ids other.id) rule (inputs_in items) one.new (λ k default inside. (new_parts ids id _ (rest.new k default inside)).0);
      differ = AllPairs-cons (λ (earlier later : InputRule). earlier.id ≢ later.id) rule (inputs_in items) (λ k default inside. (new_parts ids id _ (rest.new k default inside)).1) rest.differ;
      many = ap suc rest.many;
    }

-- the inputs of a document
pub record AreInputsInRange (rules : List InputRule) : Type 0 where
  pub within : All IsInputInRange rules
  pub differ : AllPairs (λ earlier later. earlier.id ≢ later.id) rules
  pub count : IsInRange 1 64 (length rules)

list_is : (key : List ℕ) (found : Option Items) → inputs_list_findings key found ≡ [] → AreInputsInRange (list_inputs found)
list_is key None h = absurd (cc)
list_is key (Some items) h =
    let both = parts _ (inputs_item_findings key 0 [] items) h in
    let members = inputs_behind key 0 [] items both.1 in
    record {
      within = members.within;
      differ = members.differ;
      count = subst (IsInRange 1 64) (sym members.many) (count_within 1 64 key (item_count items) both.0);
    }

pub inputs_are : (key : List ℕ) (found : Option Data) → is_some found ≡ true → inputs_findings key found ≡ [] → AreInputsInRange (inputs_of found)
inputs_are key None there h = absurd (cc)
inputs_are key (Some value) there h = list_is key (as_array value) h
