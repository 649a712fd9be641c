use Rattle.lumber_frame.proofs.Frames.{frame_stays, fault_stays}
use Rattle.lumber_frame.proofs.laws.answers_stay.Goals as goal

pub returns-clause-whole : goal.returns-clause-whole
returns-clause-whole c = frame_stays

pub returns-clause-bad : goal.returns-clause-bad
returns-clause-bad c = fault_stays
