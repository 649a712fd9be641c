use Rattle.std.proofs.Common.{◌-◌, ◌≤◌, length}
use Rattle.lanes.specs.Laning.{laning}
use Rattle.lanes.specs.Passing.{TurnsOn}
use Rattle.lanes.specs.declared.turning.Refused.{Refused}
use Rattle.lanes.proofs.Passing.{ok_of}
use Rattle.lanes.proofs.lane.Lane.turn_those.Given as goal

abbrev pub invariant-seats : goal.invariant-seats
invariant-seats g l = record {
  on : TurnsOn g.T.Tail.numbers g.T.Tail.told g.T.Tail.faults l.outlets.queue.now.capacity l.outlets.desk.now.capacity l.when (ok_of (Unit {0}) Refused tt) l.turned (laning l.initial.self) (laning l.self);
  most : l.turned ≤ l.most;
}

abbrev pub decreases-seats : goal.decreases-seats
decreases-seats g l = length l.initial.self.seats.items - l.index
