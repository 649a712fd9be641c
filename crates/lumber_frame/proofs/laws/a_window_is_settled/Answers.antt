use Rattle.lumber_frame.proofs.OneMoreWindow.{window_is}
use Rattle.lumber_frame.proofs.laws.a_window_is_settled.Goals as goal

pub returns : goal.returns
returns c = window_is
