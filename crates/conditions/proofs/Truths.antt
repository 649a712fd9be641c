-- The truth value of each level of a compiled condition is that of the rule of which it was made.
use Rattle.std.proofs.Common.{◌≡◌, ℕ, ℤ, Bool, not, ◌&&◌, ◌||◌, List, [], ◌∷◌, map, Option, Some, None, All, Vec, Box, Global, refl, sym, ap, ◌∙◌}
use Rattle.std.specs.List.{list_all, list_any}
use Rattle.std.proofs.lemmas.List.Elements.{All-head, All-tail}
use Rattle.std.proofs.lemmas.List.Folds.{list_all-map}
use Rattle.event_tree.specs.Condition.{rules_of}
use Rattle.event_tree.specs.Parts.{parts_of}
use Rattle.event_tree.specs.Paths.{get_at}
use Rattle.event_tree.specs.Value.{TreeValue, null, flag, int, str, list, fields, FieldList}
use Rattle.event_tree.specs.declared.condition_rule.Bounds.{Bounds}
use Rattle.event_tree.specs.declared.condition_rule.ConditionRule.{ConditionRule, Equals, Contains, Regexp, Range, HasFields, And, Or, Not}
use Rattle.event_tree.specs.declared.condition_rule.TextAt.{TextAt}
use Rattle.event_tree.specs.declared.condition_rules.ConditionRules.{ConditionRules}
use Rattle.conditions.specs.Asked.{passes, is_at, is_same, is_in_bounds}
use Rattle.conditions.specs.Holds.{holds}
use Rattle.rules_in_range.specs.Conditions.{IsScalar, IsScalarAt}
use Rattle.conditions.specs.Scalars.{scalar_of, is_same_scalar}
use Rattle.conditions.specs.Tests.{is_in_limits, is_passed, limits_of, equality_test, text_test, pattern_test, bounds_test, presence_test}
use Rattle.conditions.specs.Truth.{level_truth, truth_of}
use Rattle.conditions.specs.declared.field_test.FieldTest.{FieldTest}
use Rattle.conditions.specs.declared.node.Node.{Node, Node-F, fold-roll-Node}
use Rattle.conditions.specs.declared.node.Node.TheVariants as node
use Rattle.conditions.specs.declared.scalar.Scalar.TheVariants as wanted_scalar
use Rattle.conditions.proofs.Joined.{and_of_list, or_of_list, not_of_one}

-- ---- levels

any-map : {X Y : Type 0} (p : X → Bool) (h : Y → X) (ys : List Y) → list_any p (map h ys) ≡ list_any (λ y. p (h y)) ys
any-map p h [] = refl
any-map p h (y ∷ ys) = ap (λ b. p (h y) || b) (any-map p h ys)

pub truth-Each : (tests : Vec FieldTest Global) (tree : TreeValue) → truth_of (node.Each tests) tree ≡ list_all (λ test. is_passed test tree) tests.items
truth-Each tests tree =
    ap (λ (t : TreeValue → Bool). t tree) (ap truth_of (sym (node.rolls-Each tests)) ∙ fold-roll-Node (TreeValue → Bool) level_truth (Node-F.Each tests))

pub truth-And : (nodes : Vec Node Global) (tree : TreeValue) → truth_of (node.And nodes) tree ≡ list_all (λ one. truth_of one tree) nodes.items
truth-And nodes tree =
    ap (λ (t : TreeValue → Bool). t tree) (ap truth_of (sym (node.rolls-And nodes)) ∙ fold-roll-Node (TreeValue → Bool) level_truth (Node-F.And nodes))
    ∙ list_all-map (λ (t : TreeValue → Bool). t tree) truth_of nodes.items

pub truth-Or : (nodes : Vec Node Global) (tree : TreeValue) → truth_of (node.Or nodes) tree ≡ list_any (λ one. truth_of one tree) nodes.items
truth-Or nodes tree =
    ap (λ (t : TreeValue → Bool). t tree) (ap truth_of (sym (node.rolls-Or nodes)) ∙ fold-roll-Node (TreeValue → Bool) level_truth (Node-F.Or nodes))
    ∙ any-map (λ (t : TreeValue → Bool). t tree) truth_of nodes.items

pub truth-Not : (below : Box Node Global) (tree : TreeValue) → truth_of (node.Not below) tree ≡ not (truth_of below.value tree)
truth-Not below tree =
    ap (λ (t : TreeValue → Bool). t tree) (ap truth_of (sym (node.rolls-Not below)) ∙ fold-roll-Node (TreeValue → Bool) level_truth (Node-F.Not below))

-- ---- tests at paths

passes_same : (test other : TreeValue → Bool) → ((value : TreeValue) → test value ≡ other value) → (found : Option TreeValue) → passes test found ≡ passes other found
passes_same test other same None = refl
passes_same test other same (Some value) = same value

in_limits : (bounds : Bounds) (value : TreeValue) → is_in_limits (limits_of bounds) value ≡ is_in_bounds bounds value
in_limits bounds null = refl
in_limits bounds (flag truth) = refl
in_limits bounds (int number) = refl
in_limits bounds (str text) = refl
in_limits bounds (list held) = refl
in_limits bounds (fields held) = refl

same_flag : (truth : Bool) (value : TreeValue) → is_same_scalar (wanted_scalar.Flag truth) value ≡ is_same (flag truth) value
same_flag truth null = refl
same_flag truth (flag other) = refl
same_flag truth (int number) = refl
same_flag truth (str text) = refl
same_flag truth (list held) = refl
same_flag truth (fields held) = refl

same_number : (wanted : ℤ) (value : TreeValue) → is_same_scalar (wanted_scalar.Int wanted) value ≡ is_same (int wanted) value
same_number wanted null = refl
same_number wanted (flag other) = refl
same_number wanted (int number) = refl
same_number wanted (str text) = refl
same_number wanted (list held) = refl
same_number wanted (fields held) = refl

same_text : (wanted : List ℕ) (value : TreeValue) → is_same_scalar (wanted_scalar.Str wanted) value ≡ is_same (str wanted) value
same_text wanted null = refl
same_text wanted (flag other) = refl
same_text wanted (int number) = refl
same_text wanted (str text) = refl
same_text wanted (list held) = refl
same_text wanted (fields held) = refl

same_value : (wanted : TreeValue) → IsScalar wanted → (value : TreeValue) → is_same_scalar (scalar_of wanted) value ≡ is_same wanted value
same_value null is value = absurd is
same_value (flag truth) is value = same_flag truth value
same_value (int number) is value = same_number number value
same_value (str text) is value = same_text text value
same_value (list held) is value = absurd is
same_value (fields held) is value = absurd is

equal_all : (tree : TreeValue) (pairs : FieldList) → All IsScalarAt pairs →
    list_all (λ pair. is_passed (equality_test pair) tree) pairs ≡ list_all (λ pair. is_at pair.0 (is_same pair.1) tree) pairs
equal_all tree [] all = refl
equal_all tree (pair ∷ pairs) all = λ i.
    passes_same (is_same_scalar (scalar_of pair.1)) (is_same pair.1) (same_value pair.1 (All-head IsScalarAt pair pairs all).1) (get_at (parts_of pair.0) tree) i && equal_all tree pairs (All-tail IsScalarAt pair pairs all) i

in_bounds_all : (tree : TreeValue) (ranges : List Bounds) →
    list_all (λ bounds. is_passed (bounds_test bounds) tree) ranges ≡ list_all (λ bounds. is_at bounds.path (is_in_bounds bounds) tree) ranges
in_bounds_all tree [] = refl
in_bounds_all tree (bounds ∷ ranges) = λ i.
    passes_same (is_in_limits (limits_of bounds)) (is_in_bounds bounds) (in_limits bounds) (get_at (parts_of bounds.path) tree) i && in_bounds_all tree ranges i

-- ---- rules

leaf : {A : Type 0} (made : A → FieldTest) (tests : Vec FieldTest Global) (given : List A) (tree : TreeValue) → tests.items ≡ map made given →
    truth_of (node.Each tests) tree ≡ list_all (λ one. is_passed (made one) tree) given
leaf made tests given tree are =
    truth-Each tests tree ∙ ap (λ (l : List FieldTest). list_all (λ test. is_passed test tree) l) are ∙ list_all-map (λ test. is_passed test tree) made given

module _ (rule : ConditionRule) (tests : Vec FieldTest Global) (tree : TreeValue) where
  pub of_equals : (pairs : FieldList) → All IsScalarAt pairs → rule ≡ Equals pairs → tests.items ≡ map equality_test pairs → truth_of (node.Each tests) tree ≡ holds rule tree
  unfolding holds
  of_equals pairs all is are = leaf equality_test tests pairs tree are ∙ equal_all tree pairs all ∙ sym (ap (λ r. holds r tree) is)

  pub of_contains : (texts : List TextAt) → rule ≡ Contains texts → tests.items ≡ map text_test texts → truth_of (node.Each tests) tree ≡ holds rule tree
  unfolding holds
  of_contains texts is are = leaf text_test tests texts tree are ∙ sym (ap (λ r. holds r tree) is)

  pub of_regexp : (patterns : List TextAt) → rule ≡ Regexp patterns → tests.items ≡ map pattern_test patterns → truth_of (node.Each tests) tree ≡ holds rule tree
  unfolding holds
  of_regexp patterns is are = leaf pattern_test tests patterns tree are ∙ sym (ap (λ r. holds r tree) is)

  pub of_range : (ranges : List Bounds) → rule ≡ Range ranges → tests.items ≡ map bounds_test ranges → truth_of (node.Each tests) tree ≡ holds rule tree
  unfolding holds
  of_range ranges is are = leaf bounds_test tests ranges tree are ∙ in_bounds_all tree ranges ∙ sym (ap (λ r. holds r tree) is)

  pub of_has_fields : (paths : List (List ℕ)) → rule ≡ HasFields paths → tests.items ≡ map presence_test paths → truth_of (node.Each tests) tree ≡ holds rule tree
  unfolding holds
  of_has_fields paths is are = leaf presence_test tests paths tree are ∙ sym (ap (λ r. holds r tree) is)

module _ (rule : ConditionRule) (rules : ConditionRules) (nodes : Vec Node Global) (tree : TreeValue) (same : map (λ one. truth_of one tree) nodes.items ≡ map (λ one. holds one tree) (rules_of rules)) where
  pub of_and : rule ≡ And rules → truth_of (node.And nodes) tree ≡ holds rule tree
  of_and is =
      truth-And nodes tree ∙ sym (list_all-map (λ (b : Bool). b) (λ one. truth_of one tree) nodes.items)
      ∙ ap (λ (l : List Bool). list_all (λ b. b) l) same ∙ list_all-map (λ (b : Bool). b) (λ one. holds one tree) (rules_of rules)
      ∙ sym (and_of_list rules tree) ∙ sym (ap (λ r. holds r tree) is)

  pub of_or : rule ≡ Or rules → truth_of (node.Or nodes) tree ≡ holds rule tree
  of_or is =
      truth-Or nodes tree ∙ sym (any-map (λ (b : Bool). b) (λ one. truth_of one tree) nodes.items)
      ∙ ap (λ (l : List Bool). list_any (λ b. b) l) same ∙ any-map (λ (b : Bool). b) (λ one. holds one tree) (rules_of rules)
      ∙ sym (or_of_list rules tree) ∙ sym (ap (λ r. holds r tree) is)

pub of_not : (rule : ConditionRule) (inner : Box ConditionRule Global) (below : Box Node Global) (tree : TreeValue) → rule ≡ Not inner →
    truth_of below.value tree ≡ holds inner.value tree → truth_of (node.Not below) tree ≡ holds rule tree
of_not rule inner below tree is same =
    truth-Not below tree ∙ ap not same ∙ sym (not_of_one inner tree) ∙ sym (ap (λ r. holds r tree) is)
