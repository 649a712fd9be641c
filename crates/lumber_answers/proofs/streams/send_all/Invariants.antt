use Rattle.std.proofs.Common.{◌≡◌, ◌≤◌, length}
use Rattle.lumber_answers.proofs.Sending.{IsPartSent}
use Rattle.lumber_answers.proofs.streams.send_all.Given as goal

abbrev pub invariant-loop-left : goal.invariant-loop-left
invariant-loop-left g l = record {
  faults : g.L.Link.faults l.initial.link ≤ g.L.Link.faults l.link;
  idles : g.L.Link.idles l.initial.link ≤ g.L.Link.idles l.link;
  failed_sends : g.L.Link.failed_sends l.link ≡ g.L.Link.failed_sends l.initial.link;
  part : IsPartSent (g.L.Link.told l.initial.link) l.bytes l.left (g.L.Link.told l.link);
}

abbrev pub decreases-loop-left : goal.decreases-loop-left
decreases-loop-left g l = length l.left
