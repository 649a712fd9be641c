use Rattle.std.proofs.Common.{◌-◌, ◌≤◌}
use Rattle.lanes.specs.Laning.{laning}
use Rattle.lanes.specs.Passing.{TurnsOn}
use Rattle.lanes.specs.declared.turning.Refused.{Refused}
use Rattle.lanes.proofs.Passing.{ok_of}
use Rattle.lanes.proofs.lane.Lane.turn_on.Given as goal

abbrev pub invariant-passes : goal.invariant-passes
invariant-passes g l = record {
  on : TurnsOn g.T.Tail.numbers g.T.Tail.told g.T.Tail.faults l.outlets.queue.now.capacity l.outlets.desk.now.capacity l.when (ok_of (Unit {0}) Refused tt) (l.most - l.left) (laning l.initial.self) (laning l.self);
  left : l.left ≤ l.most;
}

abbrev pub decreases-passes : goal.decreases-passes
decreases-passes g l = l.left
