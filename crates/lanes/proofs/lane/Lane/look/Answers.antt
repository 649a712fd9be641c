use lib.ListN.{length-map}
use Rattle.std.specs.Option.{option_map}
use Rattle.std.proofs.Common.{◌<◌, length, refl, ap, ◌∙◌, arith}
use Rattle.std.proofs.lemmas.Option.{slice_get-map, slice_get_read}
use Rattle.lanes.specs.declared.seat.Seat.{Seat}
use Rattle.lanes.proofs.lane.Lane.look.Goals as goal

pub returns : goal.returns
returns g c =
    let items = c.args.self.now.seats.items in
    let seat = c.index.result.now in
    let within : c.args.seat < length items = omega (arith, c.requires, length-map items (λ (s : Seat g.row.T.Denot). s.harvester)) in
    record {
      one = seat.harvester;
      is = slice_get-map (λ (s : Seat g.row.T.Denot). s.harvester) items c.args.seat ∙ ap (option_map (λ (s : Seat g.row.T.Denot). s.harvester)) (slice_get_read items (length items) c.args.seat seat refl within c.index.ensures);
      slot = c.slot.ensures;
      epoch = c.told-told_to.ensures.epoch;
      told_place = c.told-told_to.ensures.place;
      read_place = c.read_to.ensures;
      changed = c.changed.ensures;
      not_idle = c.idle_since.ensures.none;
      idle = c.idle_since.ensures.since;
    }
