use Rattle.lumber_frame.proofs.Faults.{met_above, met_behind}
use Rattle.lumber_frame.proofs.laws.a_fault_is_met.Goals as goal

pub returns-clause-no_acknowledgement : goal.returns-clause-no_acknowledgement
returns-clause-no_acknowledgement c = met_behind

pub returns-clause-above_the_count : goal.returns-clause-above_the_count
returns-clause-above_the_count c = met_above
