use Rattle.std.proofs.Common.{◌∙◌}
use Rattle.ack_tracker.proofs.Passing.{latest_then, latest_else}
use Rattle.ack_tracker.proofs.slots.latest_of.Goals as goal
use Rattle.ack_tracker.proofs.slots.latest_of.Goals.{then-stands, else-stands}

pub loop-slot-preserved : goal.loop-slot-preserved
loop-slot-preserved c = elim c.if-stands.branch [
  | then-stands w ↦ latest_then c.args.files.now.entries c.args.key.now c.args.slots.now c.loop-slot.slot-index c.loop-slot.latest c.if-stands.latest c.stands.result c.loop-slot-test.true c.stands.ensures w.if-stands.true (w.latest-is ∙ w.later-latest.ensures) ∙ c.loop-slot.invariant
  | else-stands w ↦ latest_else c.args.files.now.entries c.args.key.now c.args.slots.now c.loop-slot.slot-index c.loop-slot.latest c.if-stands.latest c.stands.result c.loop-slot-test.true c.stands.ensures w.if-stands.false w.latest-is ∙ c.loop-slot.invariant
]
