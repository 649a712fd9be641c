use Rattle.ship_core.proofs.Storing.{goes_on_while_it_runs}
use Rattle.ship_core.proofs.laws.no_row_goes_back_while_it_runs.Goals as goal

pub returns : goal.returns
returns c = goes_on_while_it_runs
