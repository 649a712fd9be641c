use Rattle.std.proofs.Common.{sym}
use Rattle.wire_base.proofs.Keyed.{absent_everywhere, found_entry, find_gap}
use Rattle.ship_core.specs.Rows.{key_of}
use Rattle.ship_core.proofs.rows.Rows.get.Goals as goal

pub returns-in-Ok-clause-found : goal.returns-in-Ok-clause-found
returns-in-Ok-clause-found c = rw (← c.self.view_is) (found_entry key_of _ _ _ _ c.self.invariant.in_order (rw c.deref.ensures.value at c.in-Ok.ensures.found) c.index.ensures)

pub returns-in-Err-clause-found : goal.returns-in-Err-clause-found
returns-in-Err-clause-found c = rw (← c.self.view_is) (sym (find_gap key_of _ _ _ (rw c.deref.ensures.value at c.in-Err.ensures.absent)))

pub returns-in-Err-clause-none_has_it : goal.returns-in-Err-clause-none_has_it
returns-in-Err-clause-none_has_it c = rw (← c.self.view_is) (absent_everywhere key_of _ _ (find_gap key_of _ _ _ (rw c.deref.ensures.value at c.in-Err.ensures.absent)))
