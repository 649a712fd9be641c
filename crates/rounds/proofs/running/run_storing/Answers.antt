use Rattle.rounds.specs.Running.{StoringHasRun}
use Rattle.rounds.proofs.running.run_storing.Goals as goal

pub returns : goal.returns
unfolding StoringHasRun
returns g c = c.run.ensures
