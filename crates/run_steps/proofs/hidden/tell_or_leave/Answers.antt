use Rattle.std.proofs.Common.{◌≡◌, inr, List, Some, refl, subst, sym}
use Rattle.std.specs.Prelude.{slice_get}
use Rattle.keeper.specs.FewKeys.{HasRoomFor}
use Rattle.wire_base.specs.declared.row.Row.{Row}
use Rattle.accounts.specs.Hidden.{hidden_begin}
use Rattle.run_steps.specs.HiddenRows.{IsGoingRow, going_by}
use Rattle.run_steps.proofs.HiddenTold.{there_at}
use Rattle.run_steps.proofs.KnownKeys.{room_for_begin, row_known}
use Rattle.run_steps.proofs.hidden.tell_or_leave.Goals as goal

pub tell_row-requires-clause-few : goal.tell_row-requires-clause-few
tell_row-requires-clause-few c =
    let keeper = c.args.keeper.now in
    let known = c.requires.room in
    let row = c.at.result.now in
    let goes = subst (IsGoingRow c.args.inputs.now c.args.keys.now row) c.in-Some.is c.in_ok-row.ensures in
    let copied = subst (λ (r : Row). HasRoomFor keeper.store.rows keeper.tracked (hidden_begin (going_by (record { 0 = c.args.slot }) r)))
    (sym goes.0)
    (room_for_begin known.keys (record { 0 = c.args.slot }) row.key row.path row.epoch row.offset row.changed keeper known.knows
    (row_known known.keys keeper row known.knows (there_at keeper.store.rows c.args.place row (subst (λ (l : List Row). slice_get l c.args.place ≡ Some row) c.rows.ensures.rows c.at.ensures.at)))) in
    copied

pub returns-in-None-clause-told : goal.returns-in-None-clause-told
returns-in-None-clause-told c = record {
  row = c.at.result.now;
  at = subst (λ (l : List Row). slice_get l c.args.place ≡ Some c.at.result.now) c.rows.ensures.rows c.at.ensures.at;
  holds = inr (record { stays = subst (IsGoingRow c.args.inputs.now c.args.keys.now c.at.result.now) c.in-None.is c.in_ok-row.ensures; next_is = refl; same = refl });
}
