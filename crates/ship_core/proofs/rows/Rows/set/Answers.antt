use Rattle.std.proofs.Common.{sym, subst, ◌∙◌}
use Rattle.wire_base.proofs.Keyed.{set_at_place, insert_in_gap}
use Rattle.ship_core.specs.Rows.{key_of, AreRows}
use Rattle.ship_core.proofs.Applied.{rows-with}
use Rattle.ship_core.proofs.rows.Rows.set.Goals as goal

-- the key has a row, which is written over
pub invariant_of-self : goal.invariant_of-self
invariant_of-self c =
    subst AreRows (sym (set_at_place key_of _ c.args.row _ c.self.invariant.in_order (rw (c.deref.ensures.value, c.bytes.ensures.same) at c.in-Ok.ensures.found))) (rows-with c.args.row _ c.requires c.self.invariant)

pub returns-in-Ok-clause-set : goal.returns-in-Ok-clause-set
returns-in-Ok-clause-set c =
    rw (← c.self.view_is) (set_at_place key_of _ c.args.row _ c.self.invariant.in_order (rw (c.deref.ensures.value, c.bytes.ensures.same) at c.in-Ok.ensures.found))

pub returns-in-Ok-clause-rows : goal.returns-in-Ok-clause-rows
returns-in-Ok-clause-rows c =
    subst AreRows (sym (set_at_place key_of _ c.args.row _ c.self.invariant.in_order (rw (c.deref.ensures.value, c.bytes.ensures.same) at c.in-Ok.ensures.found))) (rows-with c.args.row _ c.requires c.self.invariant)

-- the key has none, and its row is added where it belongs
pub invariant_of-self-in-Continue-1 : goal.invariant_of-self-in-Continue-1
invariant_of-self-in-Continue-1 c =
    subst AreRows (sym (c.in_ok-insert-in-Err.ensures.items ∙ insert_in_gap key_of _ c.args.row _ (rw (c.deref.ensures.value, c.bytes.ensures.same) at c.in-Err.ensures.absent))) (rows-with c.args.row _ c.requires c.self.invariant)

pub returns-in_ok-insert-in-Err-clause-set : goal.returns-in_ok-insert-in-Err-clause-set
returns-in_ok-insert-in-Err-clause-set c =
    rw (← c.self.view_is) (c.in_ok-insert-in-Err.ensures.items ∙ insert_in_gap key_of _ c.args.row _ (rw (c.deref.ensures.value, c.bytes.ensures.same) at c.in-Err.ensures.absent))

pub returns-in_ok-insert-in-Err-clause-rows : goal.returns-in_ok-insert-in-Err-clause-rows
returns-in_ok-insert-in-Err-clause-rows c =
    subst AreRows (sym (c.in_ok-insert-in-Err.ensures.items ∙ insert_in_gap key_of _ c.args.row _ (rw (c.deref.ensures.value, c.bytes.ensures.same) at c.in-Err.ensures.absent))) (rows-with c.args.row _ c.requires c.self.invariant)
