use Rattle.std.proofs.Common.{sym, ◌∙◌}
use Rattle.ship_core.proofs.Leading.{set_change, remove_change, insert_change, no_change_there}
use Rattle.ship_core.proofs.pending.replace.Goals as goal

pub returns-in-Some-clause-replaced : goal.returns-in-Some-clause-replaced
returns-in-Some-clause-replaced c =
    set_change c.args.ops.now.items c.args.key.now c.in-Some.op c.args.op c.in-Ok.i c.requires.ascending (rw c.deref.ensures.value at c.in-Ok.ensures.found) c.in-Some.is c.requires.own

pub returns-in-None-clause-replaced : goal.returns-in-None-clause-replaced
returns-in-None-clause-replaced c =
    c.remove.ensures.items ∙ remove_change c.args.ops.now.items c.args.key.now c.args.op c.in-Ok.i c.requires.ascending (rw c.deref.ensures.value at c.in-Ok.ensures.found) c.in-None.is

pub returns-in_ok-insert-in-Err-clause-replaced : goal.returns-in_ok-insert-in-Err-clause-replaced
returns-in_ok-insert-in-Err-clause-replaced c =
    c.in_ok-insert-in-Err.ensures.items ∙ insert_change c.args.ops.now.items c.args.key.now c.in-Some-op.op c.args.op c.in-Err.i (rw c.deref.ensures.value at c.in-Err.ensures.absent) c.in-Some-op.is c.requires.own

pub returns-in_default-clause-replaced : goal.returns-in_default-clause-replaced
returns-in_default-clause-replaced c =
    sym (no_change_there c.args.ops.now.items c.args.key.now c.args.op c.in-Err.i (rw c.deref.ensures.value at c.in-Err.ensures.absent) c.in_default.is)
