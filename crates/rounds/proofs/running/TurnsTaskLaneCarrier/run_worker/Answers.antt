use Rattle.rounds.specs.Running.{CarrierHasRun}
use Rattle.rounds.proofs.running.TurnsTaskLaneCarrier.run_worker.Goals as goal

pub returns : goal.returns
unfolding CarrierHasRun
returns g c = c.run.ensures
