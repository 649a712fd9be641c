use Rattle.std.proofs.Common.{◌∙◌}
use Rattle.ack_tracker.proofs.Passing.{begun_now, not_yet}
use Rattle.ack_tracker.proofs.slots.is_begun.Goals as goal

pub returns-then-has_key : goal.returns-then-has_key
returns-then-has_key c =
    begun_now c.args.files.now.entries c.args.key.now c.args.slots.now c.loop-slot.slot-index c.has_key.result c.loop-slot-test.true c.has_key.ensures c.if-has_key.true
    ∙ c.loop-slot.invariant

pub loop-slot-preserved : goal.loop-slot-preserved
loop-slot-preserved c =
    not_yet c.args.files.now.entries c.args.key.now c.args.slots.now c.loop-slot.slot-index c.has_key.result c.loop-slot-test.true c.has_key.ensures c.if-has_key.false
    ∙ c.loop-slot.invariant
