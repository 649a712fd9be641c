use Rattle.std.specs.Option.{option_map}
use Rattle.std.proofs.Common.{◌≡◌, ℕ, length, map, set, refl, ap, ◌∙◌, rules, arith}
use Rattle.std.proofs.lemmas.List.{map-set}
use Rattle.std.proofs.lemmas.Option.{slice_get-map, slice_get_read}
use Rattle.outside.specs.Counts.{added_counts}
use Rattle.wire_base.specs.declared.note.Begin.{Begin}
use Rattle.lanes.specs.Giving.{spans_of}
use Rattle.lanes.specs.Laning.{laning}
use Rattle.lanes.specs.declared.seat.Seat.{Seat}
use Rattle.lanes.specs.declared.tally.Tally.{Tally}
use Rattle.lanes.proofs.lane.Lane.turn.Goals as goal

pub returns-then-changed-clause-changed : goal.returns-then-changed-clause-changed
returns-then-changed-clause-changed g c =
    let items = c.args.self.now.seats.items in
    let seat = c.index_mut-seat.result.now in
    let at = slice_get_read items (length items) c.args.index seat refl c.requires.within c.index_mut-seat.ensures.value in
    record {
      one = seat.harvester;
      is = slice_get-map (λ (s : Seat g.row.T.Denot). s.harvester) items c.args.index ∙ ap (option_map (λ (s : Seat g.row.T.Denot). s.harvester)) at;
      changed = search (rules, c.if-changed.ensures);
    }

pub returns-clause-turned : goal.returns-clause-turned
returns-clause-turned g c =
    let self = laning c.args.self.now in
    let items = c.args.self.now.seats.items in
    let seat = c.index_mut-seat.result.now in
    let later : Seat g.row.T.Denot = record { harvester = c.turn-turn.new.self.harvester; goes_on = c.turn-turn.new.self.goes_on } in
    let at = slice_get_read items (length items) c.args.index seat refl c.requires.within c.index_mut-seat.ensures.value in
    let spans : c.saturating_add-self.result ≡ added_counts self.spans (spans_of c.give-given.result) = omega (arith, c.saturating_add-self.ensures, c.spans.ensures) in
    let is_map = map-set (λ (s : Seat g.row.T.Denot). s.harvester) items c.args.index later in
    record {
      step = record { index = c.args.index; slot = c.slot.result; now = c.args.when.now; last = c.args.when.last; turn = c.turn-turn.result; given = c.give-given.result };
      at = record { now = refl; last = refl };
      of_index = refl;
      gave = refl;
      takes = record {
        before = seat.harvester;
        after = later.harvester;
        was = slice_get-map (λ (s : Seat g.row.T.Denot). s.harvester) items c.args.index ∙ ap (option_map (λ (s : Seat g.row.T.Denot). s.harvester)) at;
        of_slot = c.slot.ensures ∙ ap (λ (b : Begin). b.slot) c.turn-turn.ensures.begin_kept;
        goes_on = λ changed. search (rules, c.if-changed.ensures, changed);
        turned = c.turn-turn.ensures;
        gives = c.give-given.ensures;
        is = is_map;
      };
      is = ap (λ (n : ℕ). record self { harvesters = map (λ (s : Seat g.row.T.Denot). s.harvester) (set items c.args.index later); spans = n; tally = c.add.new.self }) spans
          ∙ ap (λ (t : Tally). record self { harvesters = map (λ (s : Seat g.row.T.Denot). s.harvester) (set items c.args.index later); spans = added_counts self.spans (spans_of c.give-given.result); tally = t }) c.add.ensures;
    }
