use Rattle.std.proofs.Common.{◌≡◌, ℕ, List, Contains, Some, IsSome, refl, sym, ap, ◌∙◌, subst}
use Rattle.wire_base.specs.declared.note.Note.{Note}
use Rattle.wire_base.specs.declared.note.Note.TheVariants.{Begin}
use Rattle.wire_base.specs.declared.numbers.Epoch.{Epoch}
use Rattle.wire_base.specs.declared.numbers.Moment.{Moment}
use Rattle.wire_base.specs.declared.numbers.Slot.{Slot}
use Rattle.ship_core.specs.RowOver.{Start, slot_of, start_of}
use Rattle.ack_tracker.specs.Keys.{AreFresh, at_key, noted_of, row_before, slots_at, slots_of}
use Rattle.ack_tracker.proofs.ByKey.{on_ok}
use Rattle.ack_tracker.proofs.Fresh.{one_more_fresh, stay_fresh}
use Rattle.ack_tracker.proofs.keys.Keys.prepare.Goals as goal

pub returns-in_err-keep-in-Some-clause-fresh : goal.returns-in_err-keep-in-Some-clause-fresh
returns-in_err-keep-in-Some-clause-fresh c =
    stay_fresh c.args.self.now.fresh.keys c.args.files.now.entries (noted_of c.args.self.now.by_key.entries) (noted_of c.keep.new.by_key.entries) (row_before c.args.opening.now c.args.files.now.entries (slots_of c.args.self.now.by_key.entries)) c.keep.ensures.keeps c.requires.fresh

pub returns-in_err-insert-in-Some-clause-fresh : goal.returns-in_err-insert-in-Some-clause-fresh
returns-in_err-insert-in-Some-clause-fresh c =
    subst (λ (keys : List ℕ). AreFresh keys c.args.files.now.entries (noted_of c.keep.new.by_key.entries)) (sym c.in_err-insert-in-Some.ensures.err)
    (stay_fresh c.args.self.now.fresh.keys c.args.files.now.entries (noted_of c.args.self.now.by_key.entries) (noted_of c.keep.new.by_key.entries) (row_before c.args.opening.now c.args.files.now.entries (slots_of c.args.self.now.by_key.entries)) c.keep.ensures.keeps c.requires.fresh)

pub returns-in_ok-insert-in-Some-clause-fresh : goal.returns-in_ok-insert-in-Some-clause-fresh
returns-in_ok-insert-in-Some-clause-fresh c =
    one_more_fresh c.args.self.now.fresh.keys c.insert.new.self.keys c.slot_of-slot.result.0 c.in-Some.file.now c.args.files.now.entries (noted_of c.keep.new.by_key.entries)
    (stay_fresh c.args.self.now.fresh.keys c.args.files.now.entries (noted_of c.args.self.now.by_key.entries) (noted_of c.keep.new.by_key.entries) (row_before c.args.opening.now c.args.files.now.entries (slots_of c.args.self.now.by_key.entries)) c.keep.ensures.keeps c.requires.fresh)
    (sym c.in-Some.ensures.value) (subst (λ (k : List ℕ). IsSome (at_key (noted_of c.keep.new.by_key.entries) k)) c.key.ensures.key c.in_ok-keep-in-Some.ensures.noted) c.in_ok-insert-in-Some.ensures.keys

pub returns-in-Begin-clause-fresh : goal.returns-in-Begin-clause-fresh
returns-in-Begin-clause-fresh c =
    stay_fresh c.args.self.now.fresh.keys c.args.files.now.entries (noted_of c.args.self.now.by_key.entries) (noted_of c.keep-in-Begin.new.by_key.entries) (row_before c.args.opening.now c.args.files.now.entries (slots_of c.args.self.now.by_key.entries)) c.keep-in-Begin.ensures.keeps c.requires.fresh

begin_given : (note : Note) (slot : Slot) (key path : List ℕ) (epoch : Epoch) (base : ℕ) (changed : Moment) (slots : List (List ℕ × List ℕ)) → note ≡ Begin slot key path epoch base changed → Contains (slots_at slots key) slot.0 → (start : Start) → start_of note ≡ Some start → Contains (slots_at slots start.key) (slot_of note)
begin_given note slot key path epoch base changed slots is there start begun =
    let made : Start = record { key = key; path = path; epoch = epoch.0; base = base } in
    let q : Some made ≡ Some start = sym (ap start_of is) ∙ begun in
    let same : made ≡ start = cc in
    subst (λ (k : List ℕ). Contains (slots_at slots k) (slot_of note)) (ap (λ (s : Start). s.key) same) (subst (λ (s : ℕ). Contains (slots_at slots key) s) (sym (ap slot_of is)) there)

pub returns-in-Begin-clause-given : goal.returns-in-Begin-clause-given
returns-in-Begin-clause-given c =
    let w = c.in-Begin in
    on_ok c.keep-in-Begin.result (λ given start begun none. begin_given c.args.note.now w.slot w.key w.path w.epoch w.base w.changed (slots_of c.keep-in-Begin.new.by_key.entries) w.is (given w.slot.0 refl) start begun) c.keep-in-Begin.ensures.given
