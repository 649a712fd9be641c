use Rattle.std.proofs.lemmas.Result.{err_from_is_err_and}
use Rattle.registry_frame.proofs.reading.read_operation.Goals as goal

pub returns-in_err-op-clause-reads : goal.returns-in_err-op-clause-reads
returns-in_err-op-clause-reads c = λ op rest stored begins.
    let p = err_from_is_err_and c.from_residual.result c.from_residual.ensures.1 in
    rw (p.1, p.2) (c.in_err-op.ensures.reads op rest stored (c.skip_token.ensures.passed _ _ begins))
