use Rattle.std.proofs.Common.{ap}
use Rattle.std.proofs.lemmas.Result.{err_from_is_err_and}
use Rattle.wire_base.specs.declared.row.Op.TheVariants.{Remove}
use Rattle.registry_frame.proofs.reading.read_removal.Goals as goal

pub returns-in_err-key-clause-reads : goal.returns-in_err-key-clause-reads
returns-in_err-key-clause-reads c = λ key rest begins.
    let p = err_from_is_err_and c.from_residual.result c.from_residual.ensures.1 in rw (p.1, p.2) (c.in_err-key.ensures.reads key _ begins)

pub returns-clause-reads : goal.returns-clause-reads
returns-clause-reads c = λ key rest begins.
    let read = c.in_ok-key.ensures.reads key _ begins in
    let first = c.skip_token.ensures.passed _ _ read.1 in
    let second = c.skip_token-2.ensures.passed _ _ first in
    (ap Remove read.0, c.skip_token-3.ensures.passed _ rest second)
