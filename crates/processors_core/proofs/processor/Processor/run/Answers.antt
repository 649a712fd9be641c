use Rattle.std.proofs.Common.{sym, ◌∙◌}
use Rattle.std.proofs.lemmas.Result.{IfOk-weaker}
use Rattle.event_tree.specs.Tree.{value_of}
use Rattle.processors_core.specs.Made.{when_of}
use Rattle.processors_core.proofs.Doing.{runs_rule, leaves}
use Rattle.processors_core.proofs.processor.Processor.run.Goals as goal

pub returns-then-branch-clause-fate : goal.returns-then-branch-clause-fate
returns-then-branch-clause-fate c =
    IfOk-weaker c.run.result _ _ (λ fate is. λ number done does.
    is ∙ does.acts (value_of c.args.tree) ∙ runs_rule number done (value_of c.args.tree) (sym c.if-branch.true ∙ c.in_ok-runs_on.ensures.runs (when_of done) does.when))
    c.run.ensures

pub returns-else-branch-clause-fate : goal.returns-else-branch-clause-fate
returns-else-branch-clause-fate c = λ number done does.
    leaves number done (value_of c.args.tree) (sym c.if-branch.false ∙ c.in_ok-runs_on.ensures.runs (when_of done) does.when)
