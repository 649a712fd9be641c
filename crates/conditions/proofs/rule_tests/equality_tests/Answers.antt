use Rattle.std.proofs.Common.{◌≡◌, ◌∷◌, [], ◌++◌, List, ℕ, map, take, sym, ap, ◌∙◌, add-one}
use Rattle.std.proofs.lemmas.List.{map_push}
use Rattle.event_tree.specs.Tree.{value_of}
use Rattle.event_tree.specs.Value.{TreeValue}
use Rattle.conditions.specs.Tests.{equality_test}
use Rattle.conditions.specs.declared.field_test.FieldTest.{FieldTest}
use Rattle.conditions.proofs.Nodes.{take_got}
use Rattle.conditions.proofs.rule_tests.equality_tests.Goals as goal

pub loop-i-preserved : goal.loop-i-preserved
loop-i-preserved c =
    let pairs = c.args.pairs.now in
    let i = c.loop-i.i in
    let pair : List ℕ × TreeValue = (c.at.result.0.now, value_of c.at.result.1.now) in
    let made : c.push.new.self.items ≡ c.loop-i.tests.items ++ equality_test pair ∷ [] =
    c.in_ok-push.ensures.items ∙ ap (λ (t : FieldTest). c.loop-i.tests.items ++ t ∷ []) c.in_ok-equality_test.ensures in
    made ∙ ap (λ (l : List FieldTest). l ++ equality_test pair ∷ []) c.loop-i.invariant
    ∙ sym (map_push equality_test (take i pairs) pair) ∙ ap (map equality_test) (sym (ap (λ n. take n pairs) (add-one i) ∙ take_got pairs i pair c.at.ensures.at))
