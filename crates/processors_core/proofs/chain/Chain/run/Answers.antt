use Rattle.std.proofs.Common.{◌≡◌, ◌+◌, ◌<◌, ◌≤◌, length, set, length-set, sym, ap, subst, ◌∙◌, arith}
use Rattle.std.proofs.lemmas.List.{with_items_is}
use Rattle.event_tree.specs.Tree.{value_of}
use Rattle.processors_core.specs.Fates.{shown}
use Rattle.processors_core.specs.Numbered.{by_rule}
use Rattle.processors_core.specs.Outcome.{outcome_of}
use Rattle.processors_core.specs.Runs.{AreDone}
use Rattle.processors_core.proofs.Doing.{done_at, set_done, goes_on, drops_here, all_done, same_count}
use Rattle.processors_core.proofs.chain.Chain.run.Goals as goal

pub returns-in_err-tree-clause-same : goal.returns-in_err-tree-clause-same
returns-in_err-tree-clause-same c = λ rules runs.
    let i = c.loop-processor.processor-index in
    let items = c.loop-processor.processor-items in
    let after = c.run.new.self in
    let long : length (set items i after) ≡ c.args.self.now.processors.len =
    length-set items i after ∙ c.loop-processor.auto.processor-items ∙ c.deref_mut-processor-items.ensures.len in
    subst (AreDone 10 rules) (sym (with_items_is c.args.self.now.processors (set items i after) long))
    (set_done 10 rules items i c.processor-item.result after c.run.ensures.same (c.loop-processor.invariant.same rules runs))

pub returns-in-Dropped-clause-fate : goal.returns-in-Dropped-clause-fate
returns-in-Dropped-clause-fate c = λ rules runs.
    let i = c.loop-processor.processor-index in
    let items = c.loop-processor.processor-items in
    let inside : i < length items = omega (arith, c.loop-processor-test.true, c.loop-processor.auto.processor-items) in
    let at = done_at 10 rules items i c.processor-item.result inside (c.loop-processor.invariant.same rules runs) in
    drops_here rules i at.done at.rest (value_of c.loop-processor.left) (by_rule (outcome_of rules (value_of c.args.tree))) (c.loop-processor.invariant.so_far rules runs)
    c.in-Dropped.rule.0 (sym (ap shown c.in-Dropped.is) ∙ c.in_ok-tree.ensures.fate (10 + i) at.done at.does)

pub returns-in-Dropped-clause-same : goal.returns-in-Dropped-clause-same
returns-in-Dropped-clause-same c = λ rules runs.
    let i = c.loop-processor.processor-index in
    let items = c.loop-processor.processor-items in
    let after = c.run.new.self in
    let long : length (set items i after) ≡ c.args.self.now.processors.len =
    length-set items i after ∙ c.loop-processor.auto.processor-items ∙ c.deref_mut-processor-items.ensures.len in
    subst (AreDone 10 rules) (sym (with_items_is c.args.self.now.processors (set items i after) long))
    (set_done 10 rules items i c.processor-item.result after c.run.ensures.same (c.loop-processor.invariant.same rules runs))

pub loop-processor-preserved : goal.loop-processor-preserved
loop-processor-preserved c =
    let i = c.loop-processor.processor-index in
    let items = c.loop-processor.processor-items in
    let inside : i < length items = omega (arith, c.loop-processor-test.true, c.loop-processor.auto.processor-items) in
    record {
      same = λ rules runs. set_done 10 rules items i c.processor-item.result c.run.new.self c.run.ensures.same (c.loop-processor.invariant.same rules runs);
      so_far = λ rules runs.
          let at = done_at 10 rules items i c.processor-item.result inside (c.loop-processor.invariant.same rules runs) in
          goes_on rules i at.done at.rest (value_of c.loop-processor.left) (by_rule (outcome_of rules (value_of c.args.tree))) (c.loop-processor.invariant.so_far rules runs)
          (value_of c.in-Ship.tree) (sym (ap shown c.in-Ship.is) ∙ c.in_ok-tree.ensures.fate (10 + i) at.done at.does);
    }

pub returns-clause-fate : goal.returns-clause-fate
returns-clause-fate c = λ rules runs.
    let i = c.loop-processor.processor-index in
    let items = c.loop-processor.processor-items in
    let past : length rules ≤ i = omega (arith, same_count 10 rules items (c.loop-processor.invariant.same rules runs), c.loop-processor-test.false, c.loop-processor.auto.processor-items) in
    all_done rules i (value_of c.loop-processor.left) (by_rule (outcome_of rules (value_of c.args.tree))) past (c.loop-processor.invariant.so_far rules runs)
