use Rattle.std.proofs.lemmas.Result.{IfErr-weaker, IfOk-weaker}
use Rattle.prospect.proofs.Telling.{apart, globs_are, in_order, in_range, keyed, of_inputs, refused, scanned, tells_path}
use Rattle.prospect.proofs.Unfinished.{ends_by_listing}
use Rattle.prospect.proofs.files.list_files.Goals as goal

pub returns-in-Ok-list_inputs-clause-scanned : goal.returns-in-Ok-list_inputs-clause-scanned
returns-in-Ok-list_inputs-clause-scanned g c =
    IfOk-weaker c.list_entries.result _ _
    (λ listed covered. scanned _ _ _ _ _ _ c.in-Ok.ensures c.new-entries.ensures.empty c.list_entries.ensures.ordered (rw c.deref.ensures.value at c.in-Ok-list_inputs.ensures.listed) listed.items (rw c.deref-in-Ok-list_inputs.ensures.value at covered))
    c.list_entries.ensures.covered

pub returns-in-Ok-list_inputs-clause-in_order : goal.returns-in-Ok-list_inputs-clause-in_order
returns-in-Ok-list_inputs-clause-in_order g c =
    IfOk-weaker c.list_entries.result _ _
    (λ listed covered. in_order _ _ _ _ _ _ c.in-Ok.ensures c.new-entries.ensures.empty c.list_entries.ensures.ordered (rw c.deref.ensures.value at c.in-Ok-list_inputs.ensures.listed) listed.items (rw c.deref-in-Ok-list_inputs.ensures.value at covered))
    c.list_entries.ensures.covered

pub returns-in-Ok-list_inputs-clause-apart : goal.returns-in-Ok-list_inputs-clause-apart
returns-in-Ok-list_inputs-clause-apart g c =
    IfOk-weaker c.list_entries.result _ _
    (λ listed covered. apart _ _ _ _ _ _ c.in-Ok.ensures c.new-entries.ensures.empty c.list_entries.ensures.ordered (rw c.deref.ensures.value at c.in-Ok-list_inputs.ensures.listed) listed.items (rw c.deref-in-Ok-list_inputs.ensures.value at covered))
    c.list_entries.ensures.covered

pub returns-in-Ok-list_inputs-clause-keyed : goal.returns-in-Ok-list_inputs-clause-keyed
returns-in-Ok-list_inputs-clause-keyed g c =
    IfOk-weaker c.list_entries.result _ _
    (λ listed covered. keyed _ _ _ _ _ _ c.in-Ok.ensures c.new-entries.ensures.empty c.list_entries.ensures.ordered (rw c.deref.ensures.value at c.in-Ok-list_inputs.ensures.listed) listed.items (rw c.deref-in-Ok-list_inputs.ensures.value at covered))
    c.list_entries.ensures.covered

pub returns-in-Ok-list_inputs-clause-of_inputs : goal.returns-in-Ok-list_inputs-clause-of_inputs
returns-in-Ok-list_inputs-clause-of_inputs g c =
    IfOk-weaker c.list_entries.result _ _
    (λ listed covered. of_inputs _ _ _ _ _ _ c.in-Ok.ensures c.new-entries.ensures.empty c.list_entries.ensures.ordered (rw c.deref.ensures.value at c.in-Ok-list_inputs.ensures.listed) listed.items (rw c.deref-in-Ok-list_inputs.ensures.value at covered))
    c.list_entries.ensures.covered

pub returns-in-Ok-list_inputs-clause-in_range : goal.returns-in-Ok-list_inputs-clause-in_range
returns-in-Ok-list_inputs-clause-in_range g c =
    IfOk-weaker c.list_entries.result _ _
    (λ listed covered ids. in_range _ _ _ _ _ _ c.in-Ok.ensures c.new-entries.ensures.empty c.list_entries.ensures.ordered (rw c.deref.ensures.value at c.in-Ok-list_inputs.ensures.listed) listed.items (rw c.deref-in-Ok-list_inputs.ensures.value at covered) ids)
    c.list_entries.ensures.covered

pub returns-in-Ok-list_inputs-clause-refused : goal.returns-in-Ok-list_inputs-clause-refused
returns-in-Ok-list_inputs-clause-refused g c =
    IfErr-weaker c.list_entries.result _ _
    (λ error stops. refused _ _ _ _ _ _ c.in-Ok.ensures c.new-entries.ensures.empty c.list_entries.ensures.ordered (rw c.deref.ensures.value at c.in-Ok-list_inputs.ensures.listed) error (rw c.deref-in-Ok-list_inputs.ensures.value at stops))
    c.list_entries.ensures.stops

pub returns-in-Ok-list_inputs-clause-path_in_range : goal.returns-in-Ok-list_inputs-clause-path_in_range
returns-in-Ok-list_inputs-clause-path_in_range g c =
    IfErr-weaker c.list_entries.result _ _
    (λ error stops. tells_path _ _ _ _ _ _ c.in-Ok.ensures c.new-entries.ensures.empty c.list_entries.ensures.ordered (rw c.deref.ensures.value at c.in-Ok-list_inputs.ensures.listed) error (rw c.deref-in-Ok-list_inputs.ensures.value at stops))
    c.list_entries.ensures.stops

pub returns-clause-refused : goal.returns-clause-refused
returns-clause-refused g c =
    ends_by_listing c.args.inputs.now _ _ _ _ _ (globs_are _ _ c.in-Ok.ensures) c.into.ensures (rw c.deref.ensures.value at c.in-Err.ensures.lists_some)
