use Rattle.std.proofs.lemmas.Result.{err_from_is_err_and}
use Rattle.prospect.proofs.Covering.{adds_next_input, adds_no_file, stops_at_input}
use Rattle.prospect.proofs.by_path.list_showing.Goals as goal

pub loop-input-init : goal.loop-input-init
loop-input-init c = record { covered = adds_no_file _ }

pub loop-input-preserved : goal.loop-input-preserved
loop-input-preserved c = record {
  covered = adds_next_input _ _ _ c.input-item.result _ _ _ c.loop-input-test.true c.input-item.is c.loop-input.invariant.covered c.in_ok-list_for.ensures.covered;
}

pub returns-in_err-list_for-clause-stops : goal.returns-in_err-list_for-clause-stops
returns-in_err-list_for-clause-stops c =
    let p = err_from_is_err_and c.from_residual.result c.from_residual.ensures.1 in
    rw (p.1, p.2)
    (stops_at_input _ _ _ c.input-item.result _ _ _ c.loop-input-test.true c.input-item.is c.loop-input.invariant.covered c.in_err-list_for.ensures.stops)
