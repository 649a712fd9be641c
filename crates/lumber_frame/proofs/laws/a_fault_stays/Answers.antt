use Rattle.lumber_frame.proofs.Faults.{fault_stays}
use Rattle.lumber_frame.proofs.laws.a_fault_stays.Goals as goal

pub returns : goal.returns
returns c = fault_stays
