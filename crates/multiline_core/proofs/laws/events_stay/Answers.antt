use Rattle.multiline_core.proofs.Natural.{row_stays}
use Rattle.multiline_core.proofs.laws.events_stay.Goals as goal

pub returns : goal.returns
returns c = λ rule lines more row n. row_stays rule lines more row n
