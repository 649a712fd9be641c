use Rattle.std.proofs.Common.{Option, Some, None, IfNone, sym, subst, rules, tests}
use Rattle.wire_base.specs.KeyOrder.{IsInOrder}
use Rattle.event_tree.specs.Keys.{key_of}
use Rattle.event_tree.specs.Tree.{pairs_of}
use Rattle.event_tree.proofs.Entries.{set_entry, find_gap}
use Rattle.event_tree.proofs.Edits.{in_order-set}
use Rattle.event_tree.proofs.Puts.{kept_there}
use Rattle.event_tree.proofs.Takes.{get_absent, remove_absent, take_last, left_last, last_in_order, take_there, left_there}
use Rattle.event_tree.proofs.+take.Goals as goal

none_weaker : {T P Q : Type 0} (o : Option T) → (P → Q) → IfNone o P → IfNone o Q
none_weaker None f h = f h
none_weaker (Some x) f h = tt

-- ---- the key is not there

pub fields::Fields::take_below-returns-in_default-clause-taken :
    goal.fields::Fields::take_below-returns-in_default-clause-taken
fields::Fields::take_below-returns-in_default-clause-taken t c =
    rw (← c.self.view_is) (get_absent c.args.key.now c.args.later.now _ (find_gap _ c.self.invariant _ _ (rw c.deref.ensures.value at c.in_default.ensures.absent)))

pub fields::Fields::take_below-returns-in_default-clause-left :
    goal.fields::Fields::take_below-returns-in_default-clause-left
fields::Fields::take_below-returns-in_default-clause-left t c =
    rw (← c.self.view_is) (remove_absent c.args.key.now c.args.later.now _ (find_gap _ c.self.invariant _ _ (rw c.deref.ensures.value at c.in_default.ensures.absent)))

-- ---- the key is the last part

pub fields::Fields::take_below-invariant_of-self :
    goal.fields::Fields::take_below-invariant_of-self
fields::Fields::take_below-invariant_of-self t c =
    subst (λ l. IsInOrder key_of (pairs_of l)) (sym c.remove-value.ensures.items) (last_in_order _ c.self.invariant _ c.args.later.now _ _ (rw c.deref.ensures.value at c.in-Ok.ensures.found) c.remove-value.ensures.value)

pub fields::Fields::take_below-returns-then-is_empty-clause-taken :
    goal.fields::Fields::take_below-returns-then-is_empty-clause-taken
fields::Fields::take_below-returns-then-is_empty-clause-taken t c =
    rw (← c.self.view_is) (take_last _ c.self.invariant c.args.key.now c.args.later.now _ _ (rw c.deref.ensures.value at c.in-Ok.ensures.found) c.remove-value.ensures.value (search (rules, tests)))

pub fields::Fields::take_below-returns-then-is_empty-clause-left :
    goal.fields::Fields::take_below-returns-then-is_empty-clause-left
fields::Fields::take_below-returns-then-is_empty-clause-left t c =
    rw (c.remove-value.ensures.items, ← c.self.view_is) (left_last _ c.self.invariant c.args.key.now c.args.later.now _ _ (rw c.deref.ensures.value at c.in-Ok.ensures.found) c.remove-value.ensures.value (search (rules, tests)))

-- ---- more parts follow

pub fields::Fields::take_below-invariant_of-self-2 :
    goal.fields::Fields::take_below-invariant_of-self-2
fields::Fields::take_below-invariant_of-self-2 t c =
    subst (IsInOrder key_of) (sym (set_entry _ c.self.invariant _ _ _ c.take_parts.new.self (rw c.deref.ensures.value at c.in-Ok.ensures.found) c.index_mut-entry.ensures.value)) (in_order-set _ _ _ c.self.invariant)

pub fields::Fields::take_below-returns-clause-taken :
    goal.fields::Fields::take_below-returns-clause-taken
fields::Fields::take_below-returns-clause-taken t c =
    rw (← c.self.view_is) (take_there _ c.self.invariant c.args.key.now c.args.later.now _ _ (rw c.deref.ensures.value at c.in-Ok.ensures.found) c.index_mut-entry.ensures.value _ c.take_parts.ensures.taken)

pub fields::Fields::take_below-returns-clause-left :
    goal.fields::Fields::take_below-returns-clause-left
fields::Fields::take_below-returns-clause-left t c =
    rw (← c.self.view_is) (left_there _ c.self.invariant c.args.key.now c.args.later.now _ _ (rw c.deref.ensures.value at c.in-Ok.ensures.found) c.index_mut-entry.ensures.value c.take_parts.new.self (search (rules, tests)) c.take_parts.ensures.left)

pub fields::Fields::take_below-returns-clause-kept :
    goal.fields::Fields::take_below-returns-clause-kept
fields::Fields::take_below-returns-clause-kept t c =
    rw (← c.self.view_is) (none_weaker c.take_parts.result (kept_there _ c.self.invariant c.args.key.now c.args.later.now _ _ (rw c.deref.ensures.value at c.in-Ok.ensures.found) c.index_mut-entry.ensures.value c.take_parts.new.self) c.take_parts.ensures.kept)
