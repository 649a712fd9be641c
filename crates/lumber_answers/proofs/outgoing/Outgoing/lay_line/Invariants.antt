use Rattle.std.proofs.Common.{◌≡◌, ◌≤◌, length}
use Rattle.lumber_answers.proofs.Laying.{IsPartLaid}
use Rattle.lumber_answers.proofs.outgoing.Outgoing.lay_line.Given as goal

abbrev pub invariant-loop-left : goal.invariant-loop-left
invariant-loop-left g l = record {
  faults : g.S.Sink.faults l.initial.out ≤ g.S.Sink.faults l.out;
  answers : l.self.answers ≡ l.initial.self.answers;
  part : IsPartLaid (g.S.Sink.written l.initial.out) l.initial.self.lines.items l.payload l.left l.self.lines.items (g.S.Sink.written l.out);
}

abbrev pub decreases-loop-left : goal.decreases-loop-left
decreases-loop-left g l = length l.left
