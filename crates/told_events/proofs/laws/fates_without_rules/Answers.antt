use Rattle.told_events.proofs.Fates.{without_rules}
use Rattle.told_events.proofs.laws.fates_without_rules.Goals as goal

pub returns : goal.returns
returns c = without_rules
