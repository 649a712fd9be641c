use Rattle.registry_log.proofs.Started.{started_is_opened}
use Rattle.registry_log.proofs.laws.started_area_is_opened.Goals as goal

pub returns : goal.returns
returns c = started_is_opened
