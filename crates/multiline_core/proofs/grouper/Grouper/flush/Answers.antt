use Rattle.std.proofs.Common.{◌≡◌, IfSome, sym, subst}
use Rattle.multiline_core.specs.Gathering.{IsFlushable}
use Rattle.multiline_core.specs.Message.{group_of}
use Rattle.multiline_core.proofs.Closing as lemmas
use Rattle.multiline_core.proofs.grouper.Grouper.flush.Goals as goal

pub returns-clause-flushed : goal.returns-clause-flushed
returns-clause-flushed c = λ rule row at h.
    subst (λ found. IfSome found (λ group. (group ≡ group_of rule row) × IsFlushable rule row)) (sym c.take.ensures.group)
    (lemmas.flushes_row rule row at c.args.self.now h)
