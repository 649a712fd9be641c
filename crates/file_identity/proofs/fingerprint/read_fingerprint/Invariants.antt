use Rattle.std.proofs.Common.{◌≡◌, ◌-◌, ◌≤◌, IsNone, IsSome, length}
use Rattle.file_identity.proofs.Pieces.{HasRead}
use Rattle.file_identity.proofs.fingerprint.read_fingerprint.Given as goal

abbrev pub invariant-loop-done : goal.invariant-loop-done
invariant-loop-done g l = record {
  has_read : HasRead (g.T.Tail.told l.initial.tail) l.offset l.length l.done l.hasher (g.T.Tail.told l.tail);
  within : l.done ≤ l.length;
  buffer : length l.buffer ≡ 16384;
  untold : IsNone (g.T.Tail.told l.initial.tail) → IsNone (g.T.Tail.told l.tail);
  numbers : g.T.Tail.numbers l.tail ≡ g.T.Tail.numbers l.initial.tail;
  faults : g.T.Tail.faults l.initial.tail ≤ g.T.Tail.faults l.tail;
  told_faults : IsSome (g.T.Tail.told l.initial.tail) → g.T.Tail.faults l.tail ≡ g.T.Tail.faults l.initial.tail;
}

abbrev pub decreases-loop-done : goal.decreases-loop-done
decreases-loop-done g l = l.length - l.done
