use Rattle.lumber_frame.proofs.OneInFlight.{as_last, as_oldest, fault_as_last, fault_as_oldest}
use Rattle.lumber_frame.proofs.laws.one_in_flight_asks_the_last.Goals as goal

pub returns-clause-acknowledged : goal.returns-clause-acknowledged
returns-clause-acknowledged c = λ talk payloads one. (as_last talk payloads one, as_oldest talk payloads one)

pub returns-clause-faults : goal.returns-clause-faults
returns-clause-faults c = λ talk one. (fault_as_last talk one, fault_as_oldest talk one)
