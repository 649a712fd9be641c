use Rattle.lumber_frame.proofs.OneInFlight.{none_in_flight, one_still}
use Rattle.lumber_frame.proofs.laws.one_window_at_a_time.Goals as goal

pub returns-clause-nothing : goal.returns-clause-nothing
returns-clause-nothing c = none_in_flight

pub returns-clause-one_more : goal.returns-clause-one_more
returns-clause-one_more c = one_still
