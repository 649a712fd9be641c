use Rattle.ship_core.proofs.MoreNotes.{older_changes_nothing}
use Rattle.ship_core.proofs.laws.older_epochs_change_nothing.Goals as goal

pub returns : goal.returns
returns c = older_changes_nothing
