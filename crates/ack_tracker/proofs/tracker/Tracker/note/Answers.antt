use Rattle.std.proofs.Common.{List, All, Contains, sym, subst}
use Rattle.std.proofs.lemmas.List.Elements.{All-contains_itself}
use Rattle.wire_base.specs.declared.note.Note.{Note}
use Rattle.ack_tracker.specs.Files.{gone_among}
use Rattle.ack_tracker.specs.Keys.{IsTracker, noted_of, slots_of}
use Rattle.ack_tracker.specs.Tracked.{Tracked}
use Rattle.ack_tracker.proofs.Keeping.{prepared, noted_then, same_files}
use Rattle.ack_tracker.proofs.tracker.Tracker.note.Goals as goal

-- what was made ready changes nothing for which the tracker stands
pub invariant_of-self : goal.invariant_of-self
invariant_of-self c =
    let inside = c.self.inside in
    prepared (record { stays = c.covered_end_by_spans.ensures.stays; goes = c.covered_end_by_spans.ensures.goes_on; none = c.row_by_slots.ensures.none_given; all = c.row_by_slots.ensures.all_gone; greatest = c.row_by_slots.ensures.greatest; given = c.slots_by_begin.ensures.given; gives = c.slots_by_begin.ensures.gives })
    inside.opening inside.files.entries (slots_of inside.keys.by_key.entries) (slots_of c.prepare.new.self.by_key.entries) (noted_of inside.keys.by_key.entries) (noted_of c.prepare.new.self.by_key.entries) inside.keys.fresh.keys c.prepare.new.self.fresh.keys inside.history.notes inside.committed.notes c.self.invariant c.prepare.ensures.keeps_rows c.prepare.ensures.keeps_slots c.prepare.ensures.fresh

pub invariant_of-self-in_err-add : goal.invariant_of-self-in_err-add
invariant_of-self-in_err-add c =
    let inside = c.self.inside in
    same_files inside.opening inside.files.entries c.add.new.files.entries (slots_of c.prepare.new.self.by_key.entries) (noted_of c.prepare.new.self.by_key.entries) c.prepare.new.self.fresh.keys inside.history.notes inside.committed.notes c.in_err-add.ensures.kept
    (prepared (record { stays = c.covered_end_by_spans.ensures.stays; goes = c.covered_end_by_spans.ensures.goes_on; none = c.row_by_slots.ensures.none_given; all = c.row_by_slots.ensures.all_gone; greatest = c.row_by_slots.ensures.greatest; given = c.slots_by_begin.ensures.given; gives = c.slots_by_begin.ensures.gives })
    inside.opening inside.files.entries (slots_of inside.keys.by_key.entries) (slots_of c.prepare.new.self.by_key.entries) (noted_of inside.keys.by_key.entries) (noted_of c.prepare.new.self.by_key.entries) inside.keys.fresh.keys c.prepare.new.self.fresh.keys inside.history.notes inside.committed.notes c.self.invariant c.prepare.ensures.keeps_rows c.prepare.ensures.keeps_slots c.prepare.ensures.fresh)

pub invariant_of-self-2 : goal.invariant_of-self-2
invariant_of-self-2 c =
    let inside = c.self.inside in
    subst (λ (l : List Note). IsTracker inside.opening c.add.new.files.entries (slots_of c.prepare.new.self.by_key.entries) (noted_of c.prepare.new.self.by_key.entries) c.prepare.new.self.fresh.keys l inside.committed.notes) (sym c.and-history.ensures)
    (noted_then c.slots_by_begin.ensures.given c.note_by_key.ensures inside.opening inside.files.entries c.add.new.files.entries (slots_of c.prepare.new.self.by_key.entries) (noted_of c.prepare.new.self.by_key.entries) c.prepare.new.self.fresh.keys inside.history.notes inside.committed.notes c.args.note
    (prepared (record { stays = c.covered_end_by_spans.ensures.stays; goes = c.covered_end_by_spans.ensures.goes_on; none = c.row_by_slots.ensures.none_given; all = c.row_by_slots.ensures.all_gone; greatest = c.row_by_slots.ensures.greatest; given = c.slots_by_begin.ensures.given; gives = c.slots_by_begin.ensures.gives })
    inside.opening inside.files.entries (slots_of inside.keys.by_key.entries) (slots_of c.prepare.new.self.by_key.entries) (noted_of inside.keys.by_key.entries) (noted_of c.prepare.new.self.by_key.entries) inside.keys.fresh.keys c.prepare.new.self.fresh.keys inside.history.notes inside.committed.notes c.self.invariant c.prepare.ensures.keeps_rows c.prepare.ensures.keeps_slots c.prepare.ensures.fresh)
    (c.in_ok-add.ensures.noted inside.history.notes c.self.invariant.are) c.in-Ok.ensures.noted c.in-Ok.ensures.given)

pub returns-in-Err-clause-gone_stays : goal.returns-in-Err-clause-gone_stays
returns-in-Err-clause-gone_stays c = subst (λ (t : Tracked). All (Contains (gone_among c.self.inside.files.entries)) t.gone) c.self.view_is (All-contains_itself (gone_among c.self.inside.files.entries))

pub returns-in_err-add-clause-gone_stays : goal.returns-in_err-add-clause-gone_stays
returns-in_err-add-clause-gone_stays c = subst (λ (t : Tracked). All (Contains (gone_among c.add.new.files.entries)) t.gone) c.self.view_is c.add.ensures.gone_stays

pub returns-clause-gone_stays : goal.returns-clause-gone_stays
returns-clause-gone_stays c = subst (λ (t : Tracked). All (Contains (gone_among c.add.new.files.entries)) t.gone) c.self.view_is c.add.ensures.gone_stays
