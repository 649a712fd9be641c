use Rattle.std.proofs.Common.{◌≡◌, ◌+◌, length, drop}
use Rattle.lumber_frame.specs.Talk.{out_bytes, out_before}
use Rattle.lumber_frame.proofs.talk.out_before.Given as goal

abbrev pub invariant-loop-piece : goal.invariant-loop-piece
invariant-loop-piece l =
    (l.out + out_before (drop l.piece-index l.talk) l.left ≡ out_before l.talk l.place) × (l.out + length (out_bytes (drop l.piece-index l.talk)) ≡ length (out_bytes l.talk))
