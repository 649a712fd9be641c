use Rattle.std.proofs.lemmas.Result.{err_from_is_err_and}
use Rattle.container_lines.proofs.Outputs.{stands_failed}
use Rattle.container_lines.proofs.write.write_all.Goals as goal

pub returns-in_err-count-clause-front : goal.returns-in_err-count-clause-front
returns-in_err-count-clause-front g c =
    let p = err_from_is_err_and c.from_residual.result c.from_residual.ensures.1 in
    rw (p.1) (stands_failed _ _ _ _ _ _ c.loop-left.invariant.told (rw c.in_err-count.was at c.write.ensures.told))
