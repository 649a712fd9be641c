use Rattle.lumber_frame.proofs.Frames as frames
use Rattle.lumber_frame.proofs.laws.one_form.Goals as goal

pub returns : goal.returns
returns c = frames.one_form
