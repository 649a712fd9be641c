use Rattle.std.proofs.Common.{◌≡◌, ◌≤◌, length}
use Rattle.lumber_answers.specs.HandingOn.{telling}
use Rattle.lumber_server.specs.Standing.{GoesOn, state_of}
use Rattle.lumber_server.proofs.Taking.{IsLeftOf}
use Rattle.lumber_server.proofs.transfer.Transfer.take_frames.Given as goal

abbrev pub invariant-loop-used : goal.invariant-loop-used
invariant-loop-used g l = record {
  left : IsLeftOf l.bytes l.left;
  goes_on : GoesOn (telling (g.L.Link.told l.initial.link) (g.S.Sink.written l.initial.out)) (telling (g.L.Link.told l.link) (g.S.Sink.written l.out))
      (state_of l.initial.self l.bytes) (state_of l.self l.left);
  link_faults : g.L.Link.faults l.initial.link ≤ g.L.Link.faults l.link;
  idles : g.L.Link.idles l.initial.link ≤ g.L.Link.idles l.link;
  failed_sends : g.L.Link.failed_sends l.link ≡ g.L.Link.failed_sends l.initial.link;
  faults : g.S.Sink.faults l.initial.out ≤ g.S.Sink.faults l.out;
}

abbrev pub decreases-loop-used : goal.decreases-loop-used
decreases-loop-used g l = length l.left
