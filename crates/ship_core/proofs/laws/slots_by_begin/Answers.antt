use Rattle.ship_core.proofs.Slots.{given, gives}
use Rattle.ship_core.proofs.laws.slots_by_begin.Goals as goal

pub returns-clause-given : goal.returns-clause-given
returns-clause-given c = given

pub returns-clause-gives : goal.returns-clause-gives
returns-clause-gives c = gives
