use Rattle.std.proofs.Common.{◌≤◌, length, drop}
use Rattle.std.specs.Prelude.{All}
use Rattle.lanes.specs.Done.{IsThrough}
use Rattle.lanes.specs.Laning.{laning}
use Rattle.lanes.proofs.lane.Lane.are_through.Given as goal

abbrev pub invariant-seats : goal.invariant-seats
invariant-seats g l = record {
  within : l.index ≤ length (laning l.self).harvesters;
  each : All IsThrough (drop l.index (laning l.self).harvesters);
}

abbrev pub decreases-seats : goal.decreases-seats
decreases-seats g l = l.index
