use Rattle.std.proofs.Common.{sym, subst, ap, ◌∙◌}
use Rattle.wire_base.specs.KeyOrder.{IsInOrder}
use Rattle.event_tree.specs.Keys.{key_of, find}
use Rattle.event_tree.specs.Tree.{value_of}
use Rattle.event_tree.proofs.Entries.{set_entry, insert_entry, insert_kept}
use Rattle.event_tree.proofs.Edits.{in_order-set, find-set, find-set_not}
use Rattle.event_tree.proofs.fields.Fields.set.Goals as goal
use Rattle.event_tree.proofs.fields.Fields.set.Goals.{in-Ok-insert, in-Err-insert}

-- the key was there, and its pair is written over
pub invariant_of-self : goal.invariant_of-self
invariant_of-self c =
    subst (IsInOrder key_of) (sym (set_entry _ c.self.invariant _ _ _ c.args.value (rw c.deref.ensures.value at c.in-Ok.ensures.found) c.index_mut.ensures.value)) (in_order-set _ _ _ c.self.invariant)

pub returns-in-Ok-clause-set : goal.returns-in-Ok-clause-set
returns-in-Ok-clause-set c =
    rw (← c.self.view_is) (set_entry _ c.self.invariant _ _ _ c.args.value (rw c.deref.ensures.value at c.in-Ok.ensures.found) c.index_mut.ensures.value)

pub returns-in-Ok-clause-found : goal.returns-in-Ok-clause-found
returns-in-Ok-clause-found c =
    let made = set_entry _ c.self.invariant c.args.key _ _ c.args.value (rw c.deref.ensures.value at c.in-Ok.ensures.found) c.index_mut.ensures.value in
    ap (find c.args.key) made ∙ find-set c.args.key (value_of c.args.value) _

pub returns-in-Ok-clause-others : goal.returns-in-Ok-clause-others
returns-in-Ok-clause-others c = λ other differs.
    let made = set_entry _ c.self.invariant c.args.key _ _ c.args.value (rw c.deref.ensures.value at c.in-Ok.ensures.found) c.index_mut.ensures.value in
    rw (← c.self.view_is) (ap (find other) made ∙ find-set_not c.args.key other (value_of c.args.value) _ differs)

-- the pair is added where the key belongs, if there is memory
pub invariant_of-self-in-Err : goal.invariant_of-self-in-Err
invariant_of-self-in-Err c =
    insert_kept _ c.self.invariant _ _ c.args.value _ _ (rw c.deref.ensures.value at c.in-Err.ensures.absent) c.insert.ensures.items

pub returns-after-insert-clause-set : goal.returns-after-insert-clause-set
returns-after-insert-clause-set c =
    let added = insert_entry _ c.self.invariant _ _ c.args.value (rw c.deref.ensures.value at c.in-Err.ensures.absent) in
    elim c.match-insert.branch [
      | in-Ok-insert w ↦ rw (w.result-is, c.insert.ensures.items, w.in-Ok-insert.is, ← c.self.view_is) added
      | in-Err-insert w ↦ rw w.result-is tt
    ]

pub returns-after-insert-clause-found : goal.returns-after-insert-clause-found
returns-after-insert-clause-found c =
    let added = insert_entry _ c.self.invariant c.args.key _ c.args.value (rw c.deref.ensures.value at c.in-Err.ensures.absent) in
    elim c.match-insert.branch [
      | in-Ok-insert w ↦ rw (w.result-is, c.insert.ensures.items, w.in-Ok-insert.is) (ap (find c.args.key) added ∙ find-set c.args.key (value_of c.args.value) _)
      | in-Err-insert w ↦ rw w.result-is tt
    ]

pub returns-after-insert-clause-others : goal.returns-after-insert-clause-others
returns-after-insert-clause-others c =
    let added = insert_entry _ c.self.invariant c.args.key _ c.args.value (rw c.deref.ensures.value at c.in-Err.ensures.absent) in
    elim c.match-insert.branch [
      | in-Ok-insert w ↦ rw (w.result-is, c.insert.ensures.items, w.in-Ok-insert.is, ← c.self.view_is) (λ other differs. ap (find other) added ∙ find-set_not c.args.key other (value_of c.args.value) _ differs)
      | in-Err-insert w ↦ rw w.result-is tt
    ]
