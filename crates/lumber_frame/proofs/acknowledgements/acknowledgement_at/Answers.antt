use Rattle.std.proofs.Common.{arith}
use Rattle.lumber_frame.specs.declared.frame.Frame.TheVariants.{Ack}
use Rattle.lumber_frame.specs.Reading.{IsWholeOf}
use Rattle.lumber_frame.proofs.Answering.{ack_step, no_ack}
use Rattle.lumber_frame.proofs.acknowledgements.acknowledgement_at.Goals as goal

pub returns-in-Whole-Ack-default : goal.returns-in-Whole-Ack-default
returns-in-Whole-Ack-default c =
    ack_step c.args.bytes.now c.in-Whole-Ack-default.number c.in-Whole-Ack-default.used (rw c.in-Whole-Ack-default.frame-is at c.in-Whole-Ack-default.ensures.exact)

pub returns-in_default : goal.returns-in_default
returns-in_default c =
    no_ack c.args.bytes.now (λ i. omega (arith, c.type_inv.bytes i)) (λ n begins.
    let whole : IsWholeOf c.read_frame.result (Ack n) 6 = c.read_frame.ensures.every_frame (Ack n) 6 begins in
    grind arith)

pub returns-in_default-2 : goal.returns-in_default-2
returns-in_default-2 c =
    no_ack c.args.bytes.now (λ i. omega (arith, c.type_inv.bytes i)) (λ n begins.
    let whole : IsWholeOf c.read_frame.result (Ack n) 6 = c.read_frame.ensures.every_frame (Ack n) 6 begins in
    grind arith)
