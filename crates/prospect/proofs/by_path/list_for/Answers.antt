use Rattle.std.proofs.lemmas.Result.{IfErr-weaker, on_ok_weaker, err_from_is_err_and}
use Rattle.prospect.proofs.Covering.{adds_others, stops_at_first, stops_at_others}
use Rattle.prospect.proofs.by_path.list_for.Goals as goal

pub returns-in_err-list_entry-clause-stops : goal.returns-in_err-list_entry-clause-stops
returns-in_err-list_entry-clause-stops c =
    let p = err_from_is_err_and c.from_residual.result c.from_residual.ensures.1 in
    rw (p.1, p.2) (stops_at_first _ _ _ c.in_err-list_entry.ensures.stops)

pub returns-in-Native-clause-covered : goal.returns-in-Native-clause-covered
returns-in-Native-clause-covered c =
    on_ok_weaker c.list_others.result
    (adds_others _ _ _ _ _ c.in-Native.is c.in_ok-list_entry.ensures.covered)
    (rw c.deref.ensures.value at c.list_others.ensures.covered)

pub returns-in-Native-clause-stops : goal.returns-in-Native-clause-stops
returns-in-Native-clause-stops c =
    IfErr-weaker c.list_others.result _ _
    (λ error stops. stops_at_others _ _ _ _ error c.in-Native.is c.in_ok-list_entry.ensures.covered stops)
    (rw c.deref.ensures.value at c.list_others.ensures.stops)
