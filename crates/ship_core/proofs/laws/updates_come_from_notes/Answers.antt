use Rattle.ship_core.proofs.Storing.{come_from_notes}
use Rattle.ship_core.proofs.laws.updates_come_from_notes.Goals as goal

pub returns : goal.returns
returns c = come_from_notes
