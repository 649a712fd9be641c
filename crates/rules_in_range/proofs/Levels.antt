-- The levels of a rule of the settings: it has one, and what stands within it has one less.
use Rattle.std.proofs.Common.{◌≡◌, ℕ, zero, suc, ◌<◌, ◌-◌, List, Box, Global, sym, ap, subst, ◌∙◌, arith}
use Rattle.event_tree.specs.Condition.{rules_of}
use Rattle.event_tree.specs.Value.{FieldList}
use Rattle.event_tree.specs.declared.condition_rule.Bounds.{Bounds}
use Rattle.event_tree.specs.declared.condition_rule.ConditionRule.{ConditionRule, Equals, Contains, Regexp, Range, HasFields, And, Or, Not, out-ConditionRule}
use Rattle.event_tree.specs.declared.condition_rule.ConditionRule.TheOpen.{ConditionRule-F}
use Rattle.event_tree.specs.declared.condition_rule.ConditionRule.TheVariants as variant
use Rattle.event_tree.specs.declared.condition_rule.TextAt.{TextAt}
use Rattle.event_tree.specs.declared.condition_rules.ConditionRules.{ConditionRules}
use Rattle.rules_in_range.specs.Conditions.{IsFieldPath, IsScalarAt, IsTextAt, IsPatternAt, AreBoundsAt, AreSome, IsBodyInRange, IsConditionInRange}

pub some_level : (levels : ℕ) (rule : ConditionRule) → IsConditionInRange levels rule → 0 < levels
unfolding IsConditionInRange
some_level zero rule h = absurd h
some_level (suc levels) rule h = omega arith

pub one_level : (levels : ℕ) (rule : ConditionRule) (layer : ConditionRule-F ConditionRule ConditionRules) → IsConditionInRange levels rule → out-ConditionRule rule ≡ layer →
    IsBodyInRange (IsConditionInRange (levels - 1)) layer
unfolding IsConditionInRange
one_level zero rule layer h opens = absurd h
one_level (suc levels) rule layer h opens =
    let same : suc levels - 1 ≡ levels = omega arith in
    subst (λ n. IsBodyInRange (IsConditionInRange n) layer) (sym same) (subst (IsBodyInRange (IsConditionInRange levels)) opens h)

module _ (levels : ℕ) (rule : ConditionRule) (h : IsConditionInRange levels rule) where
  pub pairs_within : (pairs : FieldList) → rule ≡ Equals pairs → AreSome IsScalarAt pairs
  pairs_within pairs is = one_level levels rule (ConditionRule-F.Equals pairs) h (ap out-ConditionRule is ∙ variant.outs-Equals pairs)

  pub texts_within : (texts lent : List TextAt) → rule ≡ Contains texts → lent ≡ texts → AreSome IsTextAt lent
  texts_within texts lent is same =
      subst (AreSome IsTextAt) (sym same) (one_level levels rule (ConditionRule-F.Contains texts) h (ap out-ConditionRule is ∙ variant.outs-Contains texts))

  pub patterns_within : (patterns lent : List TextAt) → rule ≡ Regexp patterns → lent ≡ patterns → AreSome IsPatternAt lent
  patterns_within patterns lent is same =
      subst (AreSome IsPatternAt) (sym same) (one_level levels rule (ConditionRule-F.Regexp patterns) h (ap out-ConditionRule is ∙ variant.outs-Regexp patterns))

  pub ranges_within : (ranges lent : List Bounds) → rule ≡ Range ranges → lent ≡ ranges → AreSome AreBoundsAt lent
  ranges_within ranges lent is same =
      subst (AreSome AreBoundsAt) (sym same) (one_level levels rule (ConditionRule-F.Range ranges) h (ap out-ConditionRule is ∙ variant.outs-Range ranges))

  pub paths_within : (paths lent : List (List ℕ)) → rule ≡ HasFields paths → lent ≡ paths → AreSome IsFieldPath lent
  paths_within paths lent is same =
      subst (AreSome IsFieldPath) (sym same) (one_level levels rule (ConditionRule-F.HasFields paths) h (ap out-ConditionRule is ∙ variant.outs-HasFields paths))

  pub all_within : (rules : ConditionRules) (lent : List ConditionRule) → rule ≡ And rules → lent ≡ rules_of rules → AreSome (IsConditionInRange (levels - 1)) lent
  all_within rules lent is same =
      subst (AreSome (IsConditionInRange (levels - 1))) (sym same) (one_level levels rule (ConditionRule-F.And rules) h (ap out-ConditionRule is ∙ variant.outs-And rules))

  pub some_within : (rules : ConditionRules) (lent : List ConditionRule) → rule ≡ Or rules → lent ≡ rules_of rules → AreSome (IsConditionInRange (levels - 1)) lent
  some_within rules lent is same =
      subst (AreSome (IsConditionInRange (levels - 1))) (sym same) (one_level levels rule (ConditionRule-F.Or rules) h (ap out-ConditionRule is ∙ variant.outs-Or rules))

  pub one_within : (inner : Box ConditionRule Global) → rule ≡ Not inner → IsConditionInRange (levels - 1) inner.value
  one_within inner is = one_level levels rule (ConditionRule-F.Not inner) h (ap out-ConditionRule is ∙ variant.outs-Not inner)

-- ---- with one level more

pub no_level : (rule : ConditionRule) → IsConditionInRange 0 rule → ⊥
unfolding IsConditionInRange
no_level rule h = h

module _ (levels : ℕ) where
  one_less : (rule : ConditionRule) (layer : ConditionRule-F ConditionRule ConditionRules) → IsConditionInRange (suc levels) rule → out-ConditionRule rule ≡ layer →
      IsBodyInRange (IsConditionInRange levels) layer
  unfolding IsConditionInRange
  one_less rule layer h opens = subst (IsBodyInRange (IsConditionInRange levels)) opens h

  pub all_less : (rules : ConditionRules) → IsConditionInRange (suc levels) (And rules) → AreSome (IsConditionInRange levels) (rules_of rules)
  all_less rules h = one_less (And rules) (ConditionRule-F.And rules) h (variant.outs-And rules)

  pub some_less : (rules : ConditionRules) → IsConditionInRange (suc levels) (Or rules) → AreSome (IsConditionInRange levels) (rules_of rules)
  some_less rules h = one_less (Or rules) (ConditionRule-F.Or rules) h (variant.outs-Or rules)

  pub other_less : (inner : Box ConditionRule Global) → IsConditionInRange (suc levels) (Not inner) → IsConditionInRange levels inner.value
  other_less inner h = one_less (Not inner) (ConditionRule-F.Not inner) h (variant.outs-Not inner)

  -- a level is made of what is in range within it
  pub made : (rule : ConditionRule) (layer : ConditionRule-F ConditionRule ConditionRules) → out-ConditionRule rule ≡ layer → IsBodyInRange (IsConditionInRange levels) layer →
      IsConditionInRange (suc levels) rule
  unfolding IsConditionInRange
  made rule layer opens h = subst (IsBodyInRange (IsConditionInRange levels)) (sym opens) h
