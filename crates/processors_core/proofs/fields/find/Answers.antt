use Rattle.std.proofs.Common.{sym, ◌∙◌}
use Rattle.event_tree.specs.Tree.{value_of}
use Rattle.processors_core.proofs.Overs.{found_here, found_later}
use Rattle.processors_core.proofs.fields.find.Goals as goal

pub returns-then-eq : goal.returns-then-eq
returns-then-eq c =
    found_here c.args.key.now c.args.fields.now c.loop-i.i c.at.result.0.now (value_of c.at.result.1.now) c.at.ensures.at _ c.loop-i.invariant (sym c.eq.ensures ∙ c.if-eq.true)

pub loop-i-preserved : goal.loop-i-preserved
loop-i-preserved c =
    found_later c.args.key.now c.args.fields.now c.loop-i.i c.at.result.0.now (value_of c.at.result.1.now) c.at.ensures.at _ c.loop-i.invariant (sym c.eq.ensures ∙ c.if-eq.false)
