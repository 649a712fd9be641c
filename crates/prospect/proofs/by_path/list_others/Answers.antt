use Rattle.std.proofs.lemmas.Result.{err_from_is_err_and}
use Rattle.prospect.proofs.Covering.{adds_next_other, adds_no_file, stops_at_other}
use Rattle.prospect.proofs.by_path.list_others.Goals as goal

pub loop-entry-init : goal.loop-entry-init
loop-entry-init c = record { covered = adds_no_file _ }

pub loop-entry-preserved : goal.loop-entry-preserved
loop-entry-preserved c = record {
  covered = adds_next_other _ _ _ c.entry-item.result _ _ _ c.loop-entry-test.true c.entry-item.is c.loop-entry.invariant.covered c.in_ok-list_entry.ensures.covered;
}

pub returns-in_err-list_entry-clause-stops : goal.returns-in_err-list_entry-clause-stops
returns-in_err-list_entry-clause-stops c =
    let p = err_from_is_err_and c.from_residual.result c.from_residual.ensures.1 in
    rw (p.1, p.2)
    (stops_at_other _ _ _ c.entry-item.result _ _ _ c.loop-entry-test.true c.entry-item.is c.loop-entry.invariant.covered c.in_err-list_entry.ensures.stops)
