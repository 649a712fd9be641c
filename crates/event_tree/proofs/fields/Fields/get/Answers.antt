use Rattle.std.proofs.Common.{sym}
use Rattle.event_tree.proofs.Entries.{find_entry, find_gap}
use Rattle.event_tree.proofs.fields.Fields.get.Goals as goal

pub returns-in-Ok : goal.returns-in-Ok
returns-in-Ok c =
    rw (← c.self.view_is) (find_entry _ c.self.invariant _ _ _ (rw c.deref.ensures.value at c.in-Ok.ensures.found) c.index.ensures)

pub returns-in-Err : goal.returns-in-Err
returns-in-Err c =
    rw (← c.self.view_is) (sym (find_gap _ c.self.invariant _ _ (rw c.deref.ensures.value at c.in-Err.ensures.absent)))
