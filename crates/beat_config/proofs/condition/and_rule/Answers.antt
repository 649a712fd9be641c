use Rattle.std.proofs.Common.{refl}
use Rattle.beat_config.proofs.condition.and_rule.Goals as goal

pub returns : goal.returns
returns c = (c.from_vec.result, refl, c.from_vec.ensures)
