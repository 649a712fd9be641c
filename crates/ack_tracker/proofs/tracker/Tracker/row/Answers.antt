use Rattle.std.proofs.Common.{◌≡◌, Contains, Option, sym, ◌∙◌, subst}
use Rattle.std.specs.Option.{IfNone, OnSome}
use Rattle.std.specs.Result.{IfOk}
use Rattle.std.proofs.lemmas.Result.{IfOk-weaker}
use Rattle.wire_base.specs.declared.row.Row.{Row}
use Rattle.ship_core.specs.Orderly.{AreOrderly, IsBegun}
use Rattle.ship_core.specs.RowOver.{row_over}
use Rattle.ack_tracker.specs.FileState.{FileState, row_in}
use Rattle.ack_tracker.specs.Tracked.{Tracked}
use Rattle.ack_tracker.proofs.Listed.{row_some, says_none, says_some}
use Rattle.ack_tracker.proofs.tracker.Tracker.row.Goals as goal

-- the row where it is
made : FileState → Row
made file = record { key = file.key; path = file.path; epoch = record { 0 = file.epoch }; offset = file.covered.end; changed = record { 0 = file.changed } }

pub returns-in-Some-clause-by_the_notes : goal.returns-in-Some-clause-by_the_notes
returns-in-Some-clause-by_the_notes c =
    let inside = c.self.inside in
    subst (λ (t : Tracked). AreOrderly t.notes → IfOk c.row.result (λ (row : Option Row). row ≡ row_over c.args.slot.0 t.notes)) c.self.view_is
    (λ orderly. IfOk-weaker c.row.result (λ (row : Option Row). row ≡ row_in c.in-Some.file.now) (λ (row : Option Row). row ≡ row_over c.args.slot.0 inside.history.notes)
    (λ row is. is ∙ sym (row_some inside.files.entries inside.history.notes c.self.invariant.are c.args.slot.0 c.covered_end_by_spans.ensures.stays c.covered_end_by_spans.ensures.goes_on orderly c.in-Some.file.now (sym c.in-Some.ensures.value))) c.row.ensures.row)

pub returns-in-Some-clause-none : goal.returns-in-Some-clause-none
unfolding made
returns-in-Some-clause-none c =
    let inside = c.self.inside in
    let file = c.in-Some.file.now in
    subst (λ (t : Tracked). IfOk c.row.result (λ (row : Option Row). IfNone row (IsBegun c.args.slot.0 t.notes → Contains t.gone c.args.slot.0))) c.self.view_is
    (IfOk-weaker c.row.result (λ (row : Option Row). row ≡ row_in file) _
    (λ row is. says_none inside.files.entries inside.history.notes c.self.invariant.are c.args.slot.0 file (sym c.in-Some.ensures.value) (made file) row is) c.row.ensures.row)

pub returns-in-Some-clause-some : goal.returns-in-Some-clause-some
unfolding made
returns-in-Some-clause-some c =
    let inside = c.self.inside in
    let file = c.in-Some.file.now in
    subst (λ (t : Tracked). IfOk c.row.result (λ (row : Option Row). OnSome row (IsBegun c.args.slot.0 t.notes × ¬ (Contains t.gone c.args.slot.0)))) c.self.view_is
    (IfOk-weaker c.row.result (λ (row : Option Row). row ≡ row_in file) _
    (λ row is. says_some inside.files.entries inside.history.notes c.self.invariant.are c.args.slot.0 file (sym c.in-Some.ensures.value) (made file) row is) c.row.ensures.row)
