use Rattle.lumber_frame.proofs.Faults.{no_frame, no_more}
use Rattle.lumber_frame.proofs.laws.no_acknowledgement_begins.Goals as goal

pub returns-clause-none : goal.returns-clause-none
returns-clause-none c = no_frame

pub returns-clause-only : goal.returns-clause-only
returns-clause-only c = no_more
