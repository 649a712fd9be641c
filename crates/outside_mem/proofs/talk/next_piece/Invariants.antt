use Rattle.std.proofs.Common.{◌≡◌, ◌+◌, take}
use Rattle.outside_mem.specs.Talks.{size_of}
use Rattle.outside_mem.proofs.talk.next_piece.Given as goal

abbrev pub invariant-loop-piece : goal.invariant-loop-piece
invariant-loop-piece l = l.received ≡ size_of (take l.piece-index l.pieces) + l.at
