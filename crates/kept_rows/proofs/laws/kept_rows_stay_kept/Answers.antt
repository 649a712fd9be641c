use Rattle.kept_rows.proofs.Growing.{stays_kept}
use Rattle.kept_rows.proofs.laws.kept_rows_stay_kept.Goals as goal

pub returns : goal.returns
returns c = stays_kept
