use Rattle.kept_rows.proofs.Acknowledging.{acknowledged_goes_on, stays_acknowledged}
use Rattle.kept_rows.proofs.laws.payloads_stay_acknowledged.Goals as goal

pub returns-clause-talk : goal.returns-clause-talk
returns-clause-talk c = acknowledged_goes_on

pub returns-clause-place : goal.returns-clause-place
returns-clause-place c = stays_acknowledged
