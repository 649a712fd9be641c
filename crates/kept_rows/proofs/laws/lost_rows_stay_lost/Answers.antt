use Rattle.kept_rows.proofs.Draining.{stays_inactive, stays_removed}
use Rattle.kept_rows.proofs.laws.lost_rows_stay_lost.Goals as goal

pub returns-clause-removed : goal.returns-clause-removed
returns-clause-removed c = stays_removed

pub returns-clause-inactive : goal.returns-clause-inactive
returns-clause-inactive c = stays_inactive
