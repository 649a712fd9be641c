use Rattle.std.proofs.Common.{◌≡◌, true, false, subst, sym, ◌∙◌}
use Rattle.ship_core.specs.Rows.{IsInOrder}
use Rattle.run_steps.specs.HiddenRows.{TellsSomeHidden}
use Rattle.run_steps.proofs.HiddenTold.{hides_none, hides_nothing_yet}
use Rattle.run_steps.proofs.hidden.tell_hidden.Goals as goal
use Rattle.harvester.proofs.Standings.{on_err}

pub returns-then-not-some_may_go-clause-told : goal.returns-then-not-some_may_go-clause-told
returns-then-not-some_may_go-clause-told c =
    hides_none c.args.inputs.now c.args.listed.now c.args.keeper.now.store.rows c.args.keeper.now (subst IsInOrder c.rows.ensures.rows c.are_in_order.ensures)
    (λ may. let q : true ≡ false = sym (c.some_may_go.ensures.1 may) ∙ c.if-not-some_may_go.true in cc)

pub returns-in_err-keys-clause-some_told : goal.returns-in_err-keys-clause-some_told
returns-in_err-keys-clause-some_told c =
    on_err c.from_residual.result (TellsSomeHidden c.args.inputs.now c.args.listed.now c.args.keeper.now.store.rows c.args.keeper.now c.args.keeper.now)
    (hides_nothing_yet c.args.inputs.now c.args.listed.now c.args.keeper.now.store.rows c.args.keeper.now (subst IsInOrder c.rows.ensures.rows c.are_in_order.ensures))
