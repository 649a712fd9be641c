use Rattle.run_steps.proofs.LastOnes.{last_where_met, last_where_stored}
use Rattle.run_steps.proofs.settle.settle_all.Goals as goal

pub returns-in-Some : goal.returns-in-Some
returns-in-Some g c = last_where_met c.args.met c.in-Some.now c.in-Some.ensures

pub returns-in-None : goal.returns-in-None
returns-in-None g c = last_where_stored c.args.met c.in-None.ensures
