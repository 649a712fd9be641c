use Rattle.std.specs.Option.{option_map}
use Rattle.std.proofs.Common.{◌<◌, length, refl, sym, ap, ◌∙◌, rules, arith}
use Rattle.std.proofs.lemmas.Option.{slice_get-map, slice_get_read}
use Rattle.lanes.specs.declared.seat.Seat.{Seat}
use Rattle.lanes.proofs.lane.Lane.kept_place.Goals as goal

pub returns-then-eq : goal.returns-then-eq
returns-then-eq g c =
    let items = c.args.self.now.seats.items in
    let seat = c.index.result.now in
    let place = c.in_ok-place.field-0.now in
    let within : place < length items = omega (arith, c.if-place-len.false, c.len.ensures, c.args.self.now.seats.ok.0) in
    record {
      one = seat.harvester;
      is = slice_get-map (λ (s : Seat g.row.T.Denot). s.harvester) items place ∙ ap (option_map (λ (s : Seat g.row.T.Denot). s.harvester)) (slice_get_read items (length items) place seat refl within c.index.ensures);
      of_slot = sym c.slot.ensures ∙ search (rules, c.if-eq.ensures);
    }
