use Rattle.lumber_frame.proofs.Unanswered.{fewer_acknowledged}
use Rattle.lumber_frame.proofs.laws.a_window_is_unanswered.Goals as goal

pub returns : goal.returns
returns c = fewer_acknowledged
