use Rattle.std.proofs.Common.{List, length, ap, refl, subst, ◌∙◌, arith}
use Rattle.wire_base.specs.declared.row.Row.{Row}
use Rattle.run_steps.specs.HiddenRows.{BeginsOrNothing, RowAt, TellsOrLeaves, TellsSomeHidden}
use Rattle.run_steps.proofs.HiddenTold.{hides_next, hides_some, none_hidden, rows_still}
use Rattle.run_steps.proofs.hidden.tell_rows.Goals as goal
use Rattle.harvester.proofs.Standings.{on_err}

pub rows-init : goal.rows-init
rows-init c = record {
  within = omega arith;
  hides = none_hidden c.args.inputs.now c.args.listed.now c.args.keeper.now.store.rows c.args.keeper.now;
  rows = refl;
}

pub returns-in_err-slot-clause-some_told : goal.returns-in_err-slot-clause-some_told
returns-in_err-slot-clause-some_told c =
    let rows = c.args.keeper.now.store.rows in
    on_err c.from_residual.result (TellsSomeHidden c.args.inputs.now c.args.listed.now rows c.args.keeper.now c.tell_or_leave.new.keeper)
    (hides_some c.args.inputs.now c.args.listed.now c.args.keys.now c.requires.may_go c.requires.keys rows c.rows.place c.rows.slot c.args.keeper.now c.rows.keeper c.rows.invariant.hides c.rows.invariant.rows
    c.tell_or_leave.new.keeper c.requires.in_order
    (subst (λ (l : List Row). RowAt l c.rows.place (λ row. BeginsOrNothing c.args.inputs.now c.args.keys.now c.rows.slot row c.rows.keeper c.tell_or_leave.new.keeper)) c.rows.invariant.rows c.in_err-slot.ensures.some_told))

pub rows-preserved : goal.rows-preserved
rows-preserved c =
    let rows = c.args.keeper.now.store.rows in
    let next = hides_next c.args.inputs.now c.args.listed.now c.args.keys.now c.requires.may_go c.requires.keys rows c.rows.place c.rows.slot c.args.keeper.now c.rows.keeper c.rows.invariant.hides c.rows.invariant.rows
    c.in_ok-slot.slot c.tell_or_leave.new.keeper
    (subst (λ (l : List Row). RowAt l c.rows.place (λ row. TellsOrLeaves c.args.inputs.now c.args.keys.now c.rows.slot row c.rows.keeper c.tell_or_leave.new.keeper c.in_ok-slot.slot)) c.rows.invariant.rows c.in_ok-slot.ensures.told) in
    record {
      within = let less = c.rows-test.true in let same = ap (λ (l : List Row). length l) c.rows.invariant.rows in let rows = ap (λ (l : List Row). length l) c.rows-in-rows.ensures.rows in
          let long = c.len.ensures in omega (arith, less, same, rows, long);
      hides = next;
      rows = rows_still c.args.inputs.now c.args.keys.now c.rows.keeper.store.rows c.rows.place c.rows.slot c.in_ok-slot.slot c.rows.keeper c.tell_or_leave.new.keeper c.in_ok-slot.ensures.told ∙ c.rows.invariant.rows;
    }

pub tell_or_leave-requires-clause-few : goal.tell_or_leave-requires-clause-few
tell_or_leave-requires-clause-few c =
    let less = c.rows-test.true in
    let long = c.len.ensures in
    let few = c.rows-in-rows.ensures.few in
    let slot = c.rows.invariant.hides.slot_is in
    let gone = c.rows.invariant.hides.few in
    let listed = c.requires.few_listed in
    omega (arith, less, long, few, slot, gone, listed)
