use Rattle.kept_rows.proofs.Draining.{stays_drained}
use Rattle.kept_rows.proofs.laws.drained_folders_stay_drained.Goals as goal

pub returns : goal.returns
returns c = stays_drained
