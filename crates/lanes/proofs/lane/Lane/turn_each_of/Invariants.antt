use Rattle.std.proofs.Common.{◌-◌, ◌≤◌}
use Rattle.lanes.specs.Laning.{laning}
use Rattle.lanes.specs.Passing.{TurnsEach}
use Rattle.lanes.specs.declared.turning.Refused.{Refused}
use Rattle.lanes.proofs.Passing.{ok_of}
use Rattle.lanes.proofs.lane.Lane.turn_each_of.Given as goal

abbrev pub invariant-seats : goal.invariant-seats
invariant-seats g l = record {
  each : TurnsEach g.T.Tail.numbers g.T.Tail.told g.T.Tail.faults l.outlets.queue.now.capacity l.outlets.desk.now.capacity l.when (ok_of (Unit {0}) Refused tt) l.range.start l.index (laning l.initial.self) (laning l.self);
  low : l.range.start ≤ l.index;
  high : l.index ≤ l.range.end;
}

abbrev pub decreases-seats : goal.decreases-seats
decreases-seats g l = l.range.end - l.index
