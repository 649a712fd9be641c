use Rattle.std.proofs.lemmas.Result.{err_from_is_err_and}
use Rattle.prospect.proofs.Covering.{adds_next_path, left_behind, stops_at_path}
use Rattle.prospect.proofs.by_path.list_entries.Goals as goal

pub loop-path-preserved : goal.loop-path-preserved
loop-path-preserved c = record {
  covered = adds_next_path _ _ _ _ _ c.loop-path.invariant.covered c.in_ok-list_showing.ensures.covered;
}

pub returns-in_err-list_showing-clause-stops : goal.returns-in_err-list_showing-clause-stops
returns-in_err-list_showing-clause-stops c =
    let p = err_from_is_err_and c.from_residual.result c.from_residual.ensures.1 in
    rw (p.1, p.2)
    (stops_at_path _ _ _ _ _ _ _
    (left_behind _ c.loop-path.yielded c.into_iter-path-iterator.result c.loop-path._path-iterator c.next.new.self c.next.result (c.in-Some._path, c.in-Some.showing)
    c.into_iter-path-iterator.ensures.into_iter_gives.0 c.loop-path.yielded_by c.in-Some.is c.next.ensures.steps)
    c.loop-path.invariant.covered c.in_err-list_showing.ensures.stops)
