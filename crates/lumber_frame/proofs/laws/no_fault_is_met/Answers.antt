use Rattle.lumber_frame.proofs.Faults.{settled_has_none, waiting_has_none}
use Rattle.lumber_frame.proofs.laws.no_fault_is_met.Goals as goal

pub returns-clause-settled : goal.returns-clause-settled
returns-clause-settled c = settled_has_none

pub returns-clause-waiting : goal.returns-clause-waiting
returns-clause-waiting c = waiting_has_none
