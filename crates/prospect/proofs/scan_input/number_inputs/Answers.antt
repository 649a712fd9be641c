use Rattle.prospect.proofs.Numbering.{reads_next}
use Rattle.prospect.proofs.scan_input.number_inputs.Goals as goal

pub loop-number-preserved : goal.loop-number-preserved
loop-number-preserved c =
    reads_next _ _ c.index-inputs-number.result _ _ _ c.loop-number-test.true c.index-inputs-number.is c.loop-number.invariant c.in_ok-number_input.ensures c.in_ok-push.ensures.items
