use Rattle.std.proofs.Common.{◌≡◌, ◌++◌, drop}
use Rattle.lumber_frame.specs.Talk.{in_bytes}
use Rattle.lumber_frame.proofs.talk.in_of.Given as goal

abbrev pub invariant-loop-piece : goal.invariant-loop-piece
invariant-loop-piece l = l.received.items ++ in_bytes (drop l.piece-index l.talk) ≡ in_bytes l.talk
