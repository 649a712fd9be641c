use Rattle.std.proofs.Common.{refl}
use Rattle.beat_config.proofs.condition.not_rule.Goals as goal

pub returns : goal.returns
returns c = (c.in_ok-inner.inner, refl, c.in_ok-inner.ensures.ok)
