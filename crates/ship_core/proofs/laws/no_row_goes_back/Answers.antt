use Rattle.ship_core.proofs.MoreNotes.{row_goes_on}
use Rattle.ship_core.proofs.laws.no_row_goes_back.Goals as goal

pub returns : goal.returns
returns c = row_goes_on
