use Rattle.std.proofs.Common.{All}
use Rattle.rounds.specs.Crewed.{lanings}
use Rattle.run_steps.specs.CarriersEnd.{HasLanePasses}
use Rattle.run_steps.specs.Releasing.{HasNoHarvesters}
use Rattle.run_steps.proofs.leave.end_lanes.Given as goal

abbrev pub invariant-lanes : goal.invariant-lanes
invariant-lanes g l = record {
  passes : All HasLanePasses (lanings l.lanes.items);
  no_harvesters : All HasNoHarvesters (lanings l.lanes.items);
}

abbrev pub decreases-lanes : goal.decreases-lanes
decreases-lanes g l = goal.left-lanes g l
