use Rattle.std.proofs.Common.{◌≡◌, Contains, sym, ◌∙◌, subst}
use Rattle.std.specs.Option.{IfNone, OnSome}
use Rattle.ship_core.specs.Orderly.{AreOrderly, IsBegun}
use Rattle.ship_core.specs.RowOver.{place_over}
use Rattle.ack_tracker.specs.Tracked.{Tracked}
use Rattle.ack_tracker.proofs.Listed.{place_some, says_none, says_some}
use Rattle.ack_tracker.proofs.tracker.Tracker.offset.Goals as goal

pub returns-in-Some-clause-by_the_notes : goal.returns-in-Some-clause-by_the_notes
returns-in-Some-clause-by_the_notes c =
    let inside = c.self.inside in
    subst (λ (t : Tracked). AreOrderly t.notes → c.place.result ≡ place_over c.args.slot.0 t.notes) c.self.view_is
    (λ orderly. c.place.ensures.place ∙ sym (place_some inside.files.entries inside.history.notes c.self.invariant.are c.args.slot.0 c.covered_end_by_spans.ensures.stays c.covered_end_by_spans.ensures.goes_on orderly c.in-Some.file.now (sym c.in-Some.ensures.value)))

pub returns-in-Some-clause-none : goal.returns-in-Some-clause-none
returns-in-Some-clause-none c =
    let inside = c.self.inside in
    let file = c.in-Some.file.now in
    subst (λ (t : Tracked). IfNone c.place.result (IsBegun c.args.slot.0 t.notes → Contains t.gone c.args.slot.0)) c.self.view_is
    (says_none inside.files.entries inside.history.notes c.self.invariant.are c.args.slot.0 file (sym c.in-Some.ensures.value) (record { 0 = file.epoch }, file.covered.end) c.place.result c.place.ensures.place)

pub returns-in-Some-clause-some : goal.returns-in-Some-clause-some
returns-in-Some-clause-some c =
    let inside = c.self.inside in
    let file = c.in-Some.file.now in
    subst (λ (t : Tracked). OnSome c.place.result (IsBegun c.args.slot.0 t.notes × ¬ (Contains t.gone c.args.slot.0))) c.self.view_is
    (says_some inside.files.entries inside.history.notes c.self.invariant.are c.args.slot.0 file (sym c.in-Some.ensures.value) (record { 0 = file.epoch }, file.covered.end) c.place.result c.place.ensures.place)
