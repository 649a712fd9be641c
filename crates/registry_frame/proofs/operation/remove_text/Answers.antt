use Rattle.registry_frame.proofs.Operations.{remove_short}
use Rattle.registry_frame.proofs.operation.remove_text.Goals as goal

pub returns-clause-short : goal.returns-clause-short
returns-clause-short c = rw (c.in_ok-format.ensures.ok, c.in_ok-key.ensures.spelled) (remove_short c.args.key.now c.requires)
