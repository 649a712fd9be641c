use Rattle.kept_rows.proofs.Growing.{stays_told}
use Rattle.kept_rows.proofs.laws.told_events_are_sent_still.Goals as goal

pub returns : goal.returns
returns c = stays_told
