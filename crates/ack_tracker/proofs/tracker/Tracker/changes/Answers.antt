use Rattle.std.proofs.Common.{◌≡◌, List, All, map, subst, sym}
use Rattle.std.specs.List.{filter_map}
use Rattle.std.specs.Result.{IfOk}
use Rattle.std.proofs.lemmas.Result.{IfOk-weaker}
use Rattle.wire_base.specs.declared.row.Row.{Row}
use Rattle.wire_base.specs.declared.row.Op.{Op}
use Rattle.ship_core.specs.Changes.{AreAscending, LeadTo}
use Rattle.ship_core.specs.Orderly.{AreOrderly}
use Rattle.ship_core.specs.RowsOver.{AreRowsOver}
use Rattle.ack_tracker.specs.Files.{gone_among}
use Rattle.ack_tracker.specs.Keys.{SetsBegun, change_now, noted_of, slots_of}
use Rattle.ack_tracker.proofs.ByKey.{noted_found, noted_sorted}
use Rattle.ack_tracker.specs.Tracked.{Tracked}
use Rattle.ack_tracker.proofs.Changing.{changes_lead, first_of, keys_ascend, told_ascend, told_begun}
use Rattle.ack_tracker.proofs.tracker.Tracker.changes.Goals as goal

pub returns-clause-by_the_notes : goal.returns-clause-by_the_notes
returns-clause-by_the_notes c =
    let inside = c.self.inside in
    subst (λ (t : Tracked). AreOrderly t.notes → (from : List Row) → (to : List Row) → AreRowsOver t.opening t.committed from → AreRowsOver t.opening t.notes to → IfOk c.changes.result (λ ops. LeadTo from to ops.items)) c.self.view_is
    (λ orderly from to over_from over_to. IfOk-weaker c.changes.result (λ ops. ops.items ≡ filter_map (change_now inside.files.entries (slots_of inside.keys.by_key.entries)) (noted_of inside.keys.by_key.entries)) (λ ops. LeadTo from to ops.items)
    (λ ops is. subst (LeadTo from to) (sym is)
    (changes_lead (record { stays = c.covered_end_by_spans.ensures.stays; goes = c.covered_end_by_spans.ensures.goes_on; none = c.row_by_slots.ensures.none_given; all = c.row_by_slots.ensures.all_gone; greatest = c.row_by_slots.ensures.greatest; given = c.slots_by_begin.ensures.given; gives = c.slots_by_begin.ensures.gives })
    c.changes_by_key.ensures.lead c.changes_by_key.ensures.unchanged inside.opening inside.files.entries (slots_of inside.keys.by_key.entries) (noted_of inside.keys.by_key.entries) inside.keys.fresh.keys inside.history.notes inside.committed.notes c.self.invariant orderly
    (keys_ascend (map first_of (noted_of inside.keys.by_key.entries)) (noted_sorted inside.keys.by_key.entries c.changes.ensures.in_order)) (noted_found (noted_of inside.keys.by_key.entries) (noted_sorted inside.keys.by_key.entries c.changes.ensures.in_order)) from to over_from over_to)) c.changes.ensures.changes)

pub returns-clause-ascending : goal.returns-clause-ascending
returns-clause-ascending c =
    let inside = c.self.inside in
    IfOk-weaker c.changes.result (λ ops. ops.items ≡ filter_map (change_now inside.files.entries (slots_of inside.keys.by_key.entries)) (noted_of inside.keys.by_key.entries)) (λ ops. AreAscending ops.items)
    (λ ops is. subst AreAscending (sym is) (told_ascend inside.files.entries (slots_of inside.keys.by_key.entries) (noted_of inside.keys.by_key.entries) (keys_ascend (map first_of (noted_of inside.keys.by_key.entries)) (noted_sorted inside.keys.by_key.entries c.changes.ensures.in_order)))) c.changes.ensures.changes

pub returns-clause-sets_begun : goal.returns-clause-sets_begun
returns-clause-sets_begun c =
    let inside = c.self.inside in
    subst (λ (t : Tracked). IfOk c.changes.result (λ ops. All (SetsBegun t.notes t.gone) ops.items)) c.self.view_is
    (IfOk-weaker c.changes.result (λ ops. ops.items ≡ filter_map (change_now inside.files.entries (slots_of inside.keys.by_key.entries)) (noted_of inside.keys.by_key.entries)) (λ ops. All (SetsBegun inside.history.notes (gone_among inside.files.entries)) ops.items)
    (λ ops is. subst (λ (l : List Op). All (SetsBegun inside.history.notes (gone_among inside.files.entries)) l) (sym is) (told_begun inside.files.entries (slots_of inside.keys.by_key.entries) inside.history.notes c.self.invariant.are (noted_of inside.keys.by_key.entries))) c.changes.ensures.changes)
