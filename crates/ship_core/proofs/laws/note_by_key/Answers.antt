use Rattle.ship_core.proofs.Slots.{other_key}
use Rattle.ship_core.proofs.laws.note_by_key.Goals as goal

pub returns : goal.returns
returns c = other_key
