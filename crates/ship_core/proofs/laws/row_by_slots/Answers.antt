use Rattle.ship_core.specs.RowsOver.{slots_for}
use Rattle.ship_core.proofs.Slots.{none_given, all_gone, greatest}
use Rattle.ship_core.proofs.laws.row_by_slots.Goals as goal

pub returns-clause-none_given : goal.returns-clause-none_given
returns-clause-none_given c = λ opening notes key. none_given opening notes key (slots_for key notes)

pub returns-clause-all_gone : goal.returns-clause-all_gone
returns-clause-all_gone c = λ opening notes key. all_gone opening notes key (slots_for key notes)

pub returns-clause-greatest : goal.returns-clause-greatest
returns-clause-greatest c = λ opening notes key. greatest opening notes key (slots_for key notes)
