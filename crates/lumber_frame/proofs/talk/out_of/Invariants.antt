use Rattle.std.proofs.Common.{◌≡◌, ◌++◌, drop}
use Rattle.lumber_frame.specs.Talk.{out_bytes}
use Rattle.lumber_frame.proofs.talk.out_of.Given as goal

abbrev pub invariant-loop-piece : goal.invariant-loop-piece
invariant-loop-piece l = l.out.items ++ out_bytes (drop l.piece-index l.talk) ≡ out_bytes l.talk
