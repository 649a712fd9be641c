use Rattle.rounds.specs.Running.{LaneHasRun}
use Rattle.rounds.proofs.running.TurnsTaskLaneCarrier.run_lane.Goals as goal

pub returns : goal.returns
unfolding LaneHasRun
returns g c = c.run.ensures.runs
