use Rattle.std.proofs.Common.{sym, subst, ◌∙◌}
use Rattle.wire_base.proofs.Keyed.{without_absent, find_gap, remove_at_place}
use Rattle.ship_core.specs.Rows.{key_of, AreRows}
use Rattle.ship_core.proofs.Applied.{rows-without}
use Rattle.ship_core.proofs.rows.Rows.remove.Goals as goal

pub invariant_of-self : goal.invariant_of-self
invariant_of-self c =
    subst AreRows (sym (c.remove.ensures.items ∙ remove_at_place key_of _ c.args.key.now _ c.self.invariant.in_order (rw c.deref.ensures.value at c.in-Ok.ensures.found))) (rows-without _ _ c.self.invariant)

pub returns-in-Ok-clause-removed : goal.returns-in-Ok-clause-removed
returns-in-Ok-clause-removed c =
    rw (← c.self.view_is) (c.remove.ensures.items ∙ remove_at_place key_of _ _ _ c.self.invariant.in_order (rw c.deref.ensures.value at c.in-Ok.ensures.found))

pub returns-in-Ok-clause-rows : goal.returns-in-Ok-clause-rows
returns-in-Ok-clause-rows c =
    subst AreRows (sym (c.remove.ensures.items ∙ remove_at_place key_of _ c.args.key.now _ c.self.invariant.in_order (rw c.deref.ensures.value at c.in-Ok.ensures.found))) (rows-without _ _ c.self.invariant)

pub returns-in_default-clause-removed : goal.returns-in_default-clause-removed
returns-in_default-clause-removed c =
    rw (← c.self.view_is) (sym (without_absent key_of _ _ (find_gap key_of _ _ _ (rw c.deref.ensures.value at c.in_default.ensures.absent))))
