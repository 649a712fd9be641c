use Rattle.std.proofs.Common.{None, rules, ◌≢◌}
use Rattle.prospect.specs.declared.scan_error.ScanError.TheVariants.{NoMemory}
use Rattle.prospect.proofs.PastFaults.{lists_of, partial, refused, served, whole, whole_refused}
use Rattle.prospect.proofs.Telling.{apart, globs_are, in_order, in_range, keyed, of_inputs, tells_path}
use Rattle.prospect.proofs.Trying.{all_tried, by_globs}
use Rattle.prospect.proofs.Unfinished.{on_err}
use Rattle.prospect.proofs.listings.list_past_faults.Goals as goal

pub returns-in_err-try_inputs-clause-ended : goal.returns-in_err-try_inputs-clause-ended
returns-in_err-try_inputs-clause-ended g c =
    on_err _ _ (by_globs _ _ _ _ _ (globs_are _ _ c.in_ok-inputs.ensures) (rw c.deref.ensures.value at c.in_err-try_inputs.ensures.some))

pub returns-in-Ok-clause-served : goal.returns-in-Ok-clause-served
returns-in-Ok-clause-served g c =
    served _ _ _ _ _ _ _ c.in_ok-inputs.ensures c.new.ensures.empty c.new-2.ensures.items c.list_entries.ensures.ordered (rw c.deref.ensures.value at c.in_ok-try_inputs.ensures.tried) c.in-Ok.files.items
    (rw c.deref-2.ensures.value at c.in-Ok.ensures.covered)

pub returns-in-Ok-clause-whole : goal.returns-in-Ok-clause-whole
returns-in-Ok-clause-whole g c none = whole _ _ _ _ _ _ (returns-in-Ok-clause-served g c) none

pub returns-in-Ok-clause-partial : goal.returns-in-Ok-clause-partial
returns-in-Ok-clause-partial g c =
    partial _ _ _ _ _ _ _ c.in_ok-inputs.ensures c.new.ensures.empty c.new-2.ensures.items c.list_entries.ensures.ordered (rw c.deref.ensures.value at c.in_ok-try_inputs.ensures.tried)

pub returns-in-Ok-clause-in_order : goal.returns-in-Ok-clause-in_order
returns-in-Ok-clause-in_order g c =
    in_order _ _ None None _ _ c.in_ok-inputs.ensures c.new.ensures.empty c.list_entries.ensures.ordered (lists_of _ _ _ _ _ _ (rw c.deref.ensures.value at c.in_ok-try_inputs.ensures.tried)) c.in-Ok.files.items
    (rw c.deref-2.ensures.value at c.in-Ok.ensures.covered)

pub returns-in-Ok-clause-apart : goal.returns-in-Ok-clause-apart
returns-in-Ok-clause-apart g c =
    apart _ _ None None _ _ c.in_ok-inputs.ensures c.new.ensures.empty c.list_entries.ensures.ordered (lists_of _ _ _ _ _ _ (rw c.deref.ensures.value at c.in_ok-try_inputs.ensures.tried)) c.in-Ok.files.items
    (rw c.deref-2.ensures.value at c.in-Ok.ensures.covered)

pub returns-in-Ok-clause-keyed : goal.returns-in-Ok-clause-keyed
returns-in-Ok-clause-keyed g c =
    keyed _ _ None None _ _ c.in_ok-inputs.ensures c.new.ensures.empty c.list_entries.ensures.ordered (lists_of _ _ _ _ _ _ (rw c.deref.ensures.value at c.in_ok-try_inputs.ensures.tried)) c.in-Ok.files.items
    (rw c.deref-2.ensures.value at c.in-Ok.ensures.covered)

pub returns-in-Ok-clause-of_inputs : goal.returns-in-Ok-clause-of_inputs
returns-in-Ok-clause-of_inputs g c =
    of_inputs _ _ None None _ _ c.in_ok-inputs.ensures c.new.ensures.empty c.list_entries.ensures.ordered (lists_of _ _ _ _ _ _ (rw c.deref.ensures.value at c.in_ok-try_inputs.ensures.tried)) c.in-Ok.files.items
    (rw c.deref-2.ensures.value at c.in-Ok.ensures.covered)

pub returns-in-Ok-clause-in_range : goal.returns-in-Ok-clause-in_range
returns-in-Ok-clause-in_range g c =
    in_range _ _ None None _ _ c.in_ok-inputs.ensures c.new.ensures.empty c.list_entries.ensures.ordered (lists_of _ _ _ _ _ _ (rw c.deref.ensures.value at c.in_ok-try_inputs.ensures.tried)) c.in-Ok.files.items
    (rw c.deref-2.ensures.value at c.in-Ok.ensures.covered)

pub returns-then-eq-clause-ended : goal.returns-then-eq-clause-ended
returns-then-eq-clause-ended g c =
    by_globs _ _ _ _ _ (globs_are _ _ c.in_ok-inputs.ensures) (all_tried _ _ _ _ _ _ (rw c.deref.ensures.value at c.in_ok-try_inputs.ensures.tried))

pub returns-clause-refused : goal.returns-clause-refused
returns-clause-refused g c =
    let some : c.in-Err.error ≢ NoMemory = λ same. search (rules, c.if-eq.ensures, same) in
    refused _ _ _ _ _ _ _ c.in_ok-inputs.ensures c.new.ensures.empty c.new-2.ensures.items c.list_entries.ensures.ordered (rw c.deref.ensures.value at c.in_ok-try_inputs.ensures.tried) c.in-Err.error some
    (rw c.deref-2.ensures.value at c.in-Err.ensures.stops)

pub returns-clause-whole_where_refused : goal.returns-clause-whole_where_refused
returns-clause-whole_where_refused g c none = whole_refused _ _ _ _ _ _ (returns-clause-refused g c) none

pub returns-clause-partial : goal.returns-clause-partial
returns-clause-partial g c =
    partial _ _ _ _ _ _ _ c.in_ok-inputs.ensures c.new.ensures.empty c.new-2.ensures.items c.list_entries.ensures.ordered (rw c.deref.ensures.value at c.in_ok-try_inputs.ensures.tried)

pub returns-clause-path_in_range : goal.returns-clause-path_in_range
returns-clause-path_in_range g c =
    tells_path _ _ None None _ _ c.in_ok-inputs.ensures c.new.ensures.empty c.list_entries.ensures.ordered (lists_of _ _ _ _ _ _ (rw c.deref.ensures.value at c.in_ok-try_inputs.ensures.tried)) c.in-Err.error
    (rw c.deref-2.ensures.value at c.in-Err.ensures.stops)
