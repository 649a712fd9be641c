use Rattle.std.proofs.Common.{refl}
use Rattle.glob_paths.specs.Sign.{signs}
use Rattle.glob_paths.proofs.sign.after_backslash.Goals as goal

pub returns-in-Some-clause-value : goal.returns-in-Some-clause-value
unfolding signs
returns-in-Some-clause-value c = rw c.in-Some.ensures.cases refl

pub returns-in-None-clause-value : goal.returns-in-None-clause-value
unfolding signs
returns-in-None-clause-value c = rw c.in-None.ensures.cases refl
