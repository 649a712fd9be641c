use Rattle.std.proofs.Common.{take}
use Rattle.spool_queue.specs.PutSoFar.{PutsLines}
use Rattle.spool_queue.proofs.putting.put_piece.Given as goal

-- so many bytes were taken
abbrev pub invariant-bytes : goal.invariant-bytes
invariant-bytes g l = PutsLines g.D.Disk l.initial.disk l.disk l.initial.spool l.spool l.initial.line.items (take l.byte-index l.piece) l.line.items
