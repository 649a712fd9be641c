use Rattle.multiline_core.proofs.Natural.{event_of_front}
use Rattle.multiline_core.proofs.laws.natural_events_stay.Goals as goal

pub returns : goal.returns
returns c = λ lines rule bytes more start end n. event_of_front c.lines_stay.ensures lines rule bytes more start end n
