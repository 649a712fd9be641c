use Rattle.std.proofs.Common.{ap, ◌∙◌}
use Rattle.event_tree.specs.Tree.{value_of}
use Rattle.processors_core.specs.Added.{merged}
use Rattle.processors_core.specs.Over.{put_over}
use Rattle.processors_core.proofs.Overs.{over_step}
use Rattle.processors_core.proofs.fields.+merge.Goals as goal

pub put_over-loop-i-preserved : goal.put_over-loop-i-preserved
put_over-loop-i-preserved t c =
    let members = c.args.members.now in
    over_step members c.loop-i.i c.at.result.0.now c.in_ok-key.key (value_of c.at.result.1.now) (value_of c.in_ok-next.next) c.loop-i.fields c.set.new.self
    (put_over members c.args.fields.now) c.at.ensures.at c.in_ok-key.ensures
    (c.in_ok-next.ensures ∙ ap (merged (value_of c.at.result.1.now)) c.find.ensures) c.in-Ok.ensures.set c.loop-i.invariant
