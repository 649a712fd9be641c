use Rattle.std.proofs.Common.{sym, subst, arith}
use Rattle.std.proofs.lemmas.Result.{on_ok_weaker, on_err_weaker}
use Rattle.wire_base.specs.KeyOrder.{IsInOrder}
use Rattle.event_tree.specs.Keys.{key_of}
use Rattle.event_tree.specs.Tree.{value_of, pairs_of}
use Rattle.event_tree.proofs.Entries.{set_entry}
use Rattle.event_tree.proofs.Edits.{in_order-set}
use Rattle.event_tree.proofs.Puts.{free_below, put_there, kept_there, put_new, new_in_order}
use Rattle.event_tree.proofs.+put.Goals as goal

-- ---- the key is there

pub fields::Fields::put_below-put_parts-requires :
    goal.fields::Fields::put_below-put_parts-requires
fields::Fields::put_below-put_parts-requires t c =
    (omega arith, free_below _ c.self.invariant _ _ _ _ (rw c.deref.ensures.value at c.in-Ok.ensures.found) c.index_mut-entry.ensures.value (rw (← c.self.view_is) at c.requires))

pub fields::Fields::put_below-invariant_of-self : goal.fields::Fields::put_below-invariant_of-self
fields::Fields::put_below-invariant_of-self t c =
    subst (IsInOrder key_of) (sym (set_entry _ c.self.invariant _ _ _ c.put_parts.new.self (rw c.deref.ensures.value at c.in-Ok.ensures.found) c.index_mut-entry.ensures.value)) (in_order-set _ _ _ c.self.invariant)

pub fields::Fields::put_below-returns-in-Ok-clause-put :
    goal.fields::Fields::put_below-returns-in-Ok-clause-put
fields::Fields::put_below-returns-in-Ok-clause-put t c =
    rw (← c.self.view_is) (on_ok_weaker c.put_parts.result (put_there _ c.self.invariant c.args.key.now c.args.later.now _ _ (rw c.deref.ensures.value at c.in-Ok.ensures.found) c.index_mut-entry.ensures.value (value_of c.args.value) c.put_parts.new.self) c.put_parts.ensures.put)

pub fields::Fields::put_below-returns-in-Ok-clause-kept :
    goal.fields::Fields::put_below-returns-in-Ok-clause-kept
fields::Fields::put_below-returns-in-Ok-clause-kept t c =
    rw (← c.self.view_is) (on_err_weaker c.put_parts.result (kept_there _ c.self.invariant _ c.args.later.now _ _ (rw c.deref.ensures.value at c.in-Ok.ensures.found) c.index_mut-entry.ensures.value c.put_parts.new.self) c.put_parts.ensures.kept)

-- ---- the key is not there

pub fields::Fields::put_below-invariant_of-self-in-Err :
    goal.fields::Fields::put_below-invariant_of-self-in-Err
fields::Fields::put_below-invariant_of-self-in-Err t c =
    subst (λ l. IsInOrder key_of (pairs_of l)) (sym c.in_ok-insert-in-Err.ensures.items) (new_in_order _ c.self.invariant _ _ (rw c.deref.ensures.value at c.in-Err.ensures.absent) _ _ c.in_ok-copy-in-Err.ensures)

pub fields::Fields::put_below-returns-in_ok-insert-in-Err-clause-put :
    goal.fields::Fields::put_below-returns-in_ok-insert-in-Err-clause-put
fields::Fields::put_below-returns-in_ok-insert-in-Err-clause-put t c =
    rw (c.in_ok-insert-in-Err.ensures.items, ← c.self.view_is) (put_new _ c.self.invariant c.args.key.now c.args.later.now _ (rw c.deref.ensures.value at c.in-Err.ensures.absent) (value_of c.args.value) _ _ c.in_ok-copy-in-Err.ensures c.in_ok-branch-in-Err.ensures)
