use Rattle.batch_worker.proofs.Beginning.{begun_stands}
use Rattle.std.proofs.Common.{refl}
use Rattle.batch_worker.proofs.worker.Worker.new.Goals as goal

pub returns-in-Ok-clause-stands : goal.returns-in-Ok-clause-stands
returns-in-Ok-clause-stands g c = λ outcomes.
    begun_stands g.L.Link.told _ outcomes c.in-Ok.ensures.stands refl
