use Rattle.std.proofs.Common.{List, ◌≤◌, length, subst}
use Rattle.wire_base.specs.declared.row.Row.{Row}
use Rattle.ship_core.specs.Rows.{IsInOrder}
use Rattle.keeper.proofs.Sounding.{sound_at_first}
use Rattle.keeper.proofs.keeper.Keeper.new.Goals as goal

pub invariant_of-result : goal.invariant_of-result
invariant_of-result c =
    let rows = c.rows.ensures.rows in
    rw c.in-Ok.ensures (sound_at_first c.args.store c.rows-2.result.now c.rows-2.ensures.rows (subst IsInOrder rows c.are_in_order.ensures) (subst (λ (l : List Row). length l ≤ 65_536) rows c.rows.ensures.few))
