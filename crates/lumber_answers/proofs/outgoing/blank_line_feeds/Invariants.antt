use Rattle.lumber_answers.proofs.Laying.{IsBlankedTo}
use Rattle.lumber_answers.proofs.outgoing.blank_line_feeds.Given as goal

abbrev pub invariant-loop-byte : goal.invariant-loop-byte
invariant-loop-byte l = IsBlankedTo l.initial.bytes l.bytes l.byte-index
