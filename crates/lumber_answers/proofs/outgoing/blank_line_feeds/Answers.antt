use Rattle.std.proofs.Common.{arith}
use Rattle.lumber_answers.proofs.Laying.{all_blanked, blanked_more}
use Rattle.lumber_answers.proofs.outgoing.blank_line_feeds.Goals as goal

pub loop-byte-preserved : goal.loop-byte-preserved
loop-byte-preserved c = blanked_more _ _ _ _ (omega arith) (omega arith) c.loop-byte.invariant c.byte_of_line.ensures

pub returns : goal.returns
returns c = all_blanked _ _ _ (omega arith) (omega arith) c.loop-byte.invariant
