use Rattle.std.proofs.Common.{◌≡◌, map, sym, ap, ◌∙◌, arith}
use Rattle.event_tree.specs.declared.condition_rule.ConditionRule.{ConditionRule}
use Rattle.rules_in_range.proofs.Levels.{some_level, pairs_within, texts_within, patterns_within, ranges_within, paths_within, all_within, some_within, one_within}
use Rattle.conditions.specs.Holds.{holds}
use Rattle.conditions.specs.Tests.{text_test, pattern_test, bounds_test, presence_test}
use Rattle.conditions.specs.Truth.{truth_of}
use Rattle.conditions.specs.declared.node.Node.{Node}
use Rattle.conditions.proofs.Truths.{of_equals, of_contains, of_regexp, of_range, of_has_fields, of_and, of_or, of_not}
use Rattle.conditions.proofs.node.+made.Goals as goal

pub Node::of-overflow_sub-below : goal.Node::of-overflow_sub-below
Node::of-overflow_sub-below t c = some_level c.args.levels c.args.rule.now c.requires

pub Node::of-equality_tests-requires : goal.Node::of-equality_tests-requires
Node::of-equality_tests-requires t c = pairs_within c.args.levels c.args.rule.now c.requires c.in-Equals.pairs c.in-Equals.is

pub Node::of-text_tests-requires : goal.Node::of-text_tests-requires
Node::of-text_tests-requires t c = texts_within c.args.levels c.args.rule.now c.requires c.in-Contains.texts c.as_slice.result.now c.in-Contains.is c.as_slice.ensures

pub Node::of-pattern_tests-requires : goal.Node::of-pattern_tests-requires
Node::of-pattern_tests-requires t c =
    patterns_within c.args.levels c.args.rule.now c.requires c.in-Regexp.texts c.as_slice-in-Regexp-2.result.now c.in-Regexp.is c.as_slice-in-Regexp-2.ensures

pub Node::of-compile-requires : goal.Node::of-compile-requires
Node::of-compile-requires t c =
    patterns_within c.args.levels c.args.rule.now c.requires c.in-Regexp.texts c.as_slice-in-Regexp.result.now c.in-Regexp.is c.as_slice-in-Regexp.ensures

pub Node::of-bounds_tests-requires : goal.Node::of-bounds_tests-requires
Node::of-bounds_tests-requires t c =
    ranges_within c.args.levels c.args.rule.now c.requires c.in-Range.ranges c.as_slice-in-Range.result.now c.in-Range.is c.as_slice-in-Range.ensures

pub Node::of-presence_tests-requires : goal.Node::of-presence_tests-requires
Node::of-presence_tests-requires t c =
    paths_within c.args.levels c.args.rule.now c.requires c.in-HasFields.paths c.as_slice-in-HasFields.result.now c.in-HasFields.is c.as_slice-in-HasFields.ensures

pub Node::of-nodes_of-requires : goal.Node::of-nodes_of-requires
Node::of-nodes_of-requires t c =
    let some = some_level c.args.levels c.args.rule.now c.requires in
    (omega (arith, some), all_within c.args.levels c.args.rule.now c.requires c.in-And.rules c.as_slice-in-And.result.now c.in-And.is c.as_slice-in-And.ensures)

pub Node::of-nodes_of-requires-in-Or : goal.Node::of-nodes_of-requires-in-Or
Node::of-nodes_of-requires-in-Or t c =
    let some = some_level c.args.levels c.args.rule.now c.requires in
    (omega (arith, some), some_within c.args.levels c.args.rule.now c.requires c.in-Or.rules c.as_slice-in-Or.result.now c.in-Or.is c.as_slice-in-Or.ensures)

pub Node::of-of-requires : goal.Node::of-of-requires
Node::of-of-requires t c =
    let some = some_level c.args.levels c.args.rule.now c.requires in
    (omega (arith, some), rw c.deref.ensures (one_within c.args.levels c.args.rule.now c.requires c.in-Not.inner c.in-Not.is))

pub Node::of-returns-in_ok-equality_tests-in-Equals : goal.Node::of-returns-in_ok-equality_tests-in-Equals
Node::of-returns-in_ok-equality_tests-in-Equals t c = λ tree.
    of_equals c.args.rule.now c.in_ok-equality_tests-in-Equals.field-0 tree c.in-Equals.pairs
    (pairs_within c.args.levels c.args.rule.now c.requires c.in-Equals.pairs c.in-Equals.is).1 c.in-Equals.is c.in_ok-equality_tests-in-Equals.ensures

pub Node::of-returns-in_ok-text_tests-in-Contains : goal.Node::of-returns-in_ok-text_tests-in-Contains
Node::of-returns-in_ok-text_tests-in-Contains t c = λ tree.
    of_contains c.args.rule.now c.in_ok-text_tests-in-Contains.field-0 tree c.in-Contains.texts c.in-Contains.is
    (c.in_ok-text_tests-in-Contains.ensures ∙ ap (map text_test) c.as_slice.ensures)

pub Node::of-returns-in_ok-pattern_tests-in-Regexp : goal.Node::of-returns-in_ok-pattern_tests-in-Regexp
Node::of-returns-in_ok-pattern_tests-in-Regexp t c = λ tree.
    of_regexp c.args.rule.now c.in_ok-pattern_tests-in-Regexp.field-0 tree c.in-Regexp.texts c.in-Regexp.is
    (c.in_ok-pattern_tests-in-Regexp.ensures ∙ ap (map pattern_test) c.as_slice-in-Regexp-2.ensures)

pub Node::of-returns-in_ok-bounds_tests-in-Range : goal.Node::of-returns-in_ok-bounds_tests-in-Range
Node::of-returns-in_ok-bounds_tests-in-Range t c = λ tree.
    of_range c.args.rule.now c.in_ok-bounds_tests-in-Range.field-0 tree c.in-Range.ranges c.in-Range.is
    (c.in_ok-bounds_tests-in-Range.ensures ∙ ap (map bounds_test) c.as_slice-in-Range.ensures)

pub Node::of-returns-in_ok-presence_tests-in-HasFields : goal.Node::of-returns-in_ok-presence_tests-in-HasFields
Node::of-returns-in_ok-presence_tests-in-HasFields t c = λ tree.
    of_has_fields c.args.rule.now c.in_ok-presence_tests-in-HasFields.field-0 tree c.in-HasFields.paths c.in-HasFields.is
    (c.in_ok-presence_tests-in-HasFields.ensures ∙ ap (map presence_test) c.as_slice-in-HasFields.ensures)

pub Node::of-returns-in_ok-nodes_of-in-And : goal.Node::of-returns-in_ok-nodes_of-in-And
Node::of-returns-in_ok-nodes_of-in-And t c = λ tree.
    of_and c.args.rule.now c.in-And.rules c.in_ok-nodes_of-in-And.field-0 tree
    (c.in_ok-nodes_of-in-And.ensures tree ∙ ap (map (λ (one : ConditionRule). holds one tree)) c.as_slice-in-And.ensures) c.in-And.is

pub Node::of-returns-in_ok-nodes_of-in-Or : goal.Node::of-returns-in_ok-nodes_of-in-Or
Node::of-returns-in_ok-nodes_of-in-Or t c = λ tree.
    of_or c.args.rule.now c.in-Or.rules c.in_ok-nodes_of-in-Or.field-0 tree
    (c.in_ok-nodes_of-in-Or.ensures tree ∙ ap (map (λ (one : ConditionRule). holds one tree)) c.as_slice-in-Or.ensures) c.in-Or.is

pub Node::of-returns-in_ok-new-in-Not : goal.Node::of-returns-in_ok-new-in-Not
Node::of-returns-in_ok-new-in-Not t c = λ tree.
    of_not c.args.rule.now c.in-Not.inner c.in_ok-new-in-Not.field-0 tree c.in-Not.is
    (ap (λ (n : Node). truth_of n tree) c.in_ok-new-in-Not.ensures.ok ∙ c.in_ok-node-in-Not.ensures tree ∙ ap (λ (r : ConditionRule). holds r tree) c.deref.ensures)
