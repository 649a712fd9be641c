use Rattle.std.proofs.Common.{arith}
use Rattle.registry_frame.proofs.reading.read_epoch.Goals as goal

pub returns-in_err-number-clause-reads : goal.returns-in_err-number-clause-reads
returns-in_err-number-clause-reads c = λ epoch rest short begins. absurd (c.in_err-number.ensures.reads epoch rest (omega (arith, short)) begins)

pub returns-then-number-clause-reads : goal.returns-then-number-clause-reads
returns-then-number-clause-reads c = λ epoch rest short begins.
    let read = c.in_ok-number.ensures.reads epoch rest (omega (arith, short)) begins in omega (arith, short, read.0)

pub returns-clause-reads : goal.returns-clause-reads
returns-clause-reads c = λ epoch rest short begins. c.in_ok-number.ensures.reads epoch rest (omega (arith, short)) begins
