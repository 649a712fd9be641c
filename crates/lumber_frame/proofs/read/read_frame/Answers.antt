use Rattle.std.proofs.Common.{arith, rules}
use Rattle.lumber_frame.specs.declared.frame.FrameView.TheVariants as view
use Rattle.lumber_frame.specs.declared.frame.FrameRead.TheVariants.{Whole}
use Rattle.lumber_frame.proofs.Readings.{window_front, ack_front, bad_from, short_from, short_at_fault}
use Rattle.lumber_frame.proofs.read.read_frame.Goals as goal

pub returns-in-Some-clause-exact : goal.returns-in-Some-clause-exact
returns-in-Some-clause-exact c =
    window_front c.args.bytes.now c.in-Some.count (λ i. omega (arith, c.type_inv.bytes i)) c.in-Some.ensures.0 (omega arith) (omega arith) c.in-Some.ensures.1

pub returns-in-Some-clause-short : goal.returns-in-Some-clause-short
returns-in-Some-clause-short c = short_from c.args.bytes.now (Whole (view.Window c.in-Some.count) 6) (returns-in-Some-clause-exact c)

pub returns-in-Some-number_at-clause-exact : goal.returns-in-Some-number_at-clause-exact
returns-in-Some-number_at-clause-exact c =
    ack_front c.args.bytes.now c.in-Some-number_at.sequence (λ i. omega (arith, c.type_inv.bytes i)) c.in-Some-number_at.ensures.0 (omega arith) (omega arith) c.in-Some-number_at.ensures.1

pub returns-in-Some-number_at-clause-short : goal.returns-in-Some-number_at-clause-short
returns-in-Some-number_at-clause-short c = short_from c.args.bytes.now (Whole (view.Ack c.in-Some-number_at.sequence) 6) (returns-in-Some-number_at-clause-exact c)

pub returns-in-50-3-clause-bad : goal.returns-in-50-3-clause-bad
returns-in-50-3-clause-bad c = bad_from c.args.bytes.now c.read_json.result c.read_json.ensures

pub returns-in-50-3-clause-short : goal.returns-in-50-3-clause-short
returns-in-50-3-clause-short c = short_from c.args.bytes.now c.read_json.result c.read_json.ensures

pub returns-in-50-4-clause-short : goal.returns-in-50-4-clause-short
returns-in-50-4-clause-short c =
    short_at_fault c.args.bytes.now _ (search rules)

pub returns-in_default-clause-short : goal.returns-in_default-clause-short
returns-in_default-clause-short c =
    short_at_fault c.args.bytes.now _ (search rules)
