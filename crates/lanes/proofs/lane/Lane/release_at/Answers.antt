use lib.ListN.{length-map}
use Rattle.std.specs.Option.{option_map}
use Rattle.std.proofs.Common.{◌<◌, List, length, map, refl, ap, ◌∙◌, arith}
use Rattle.std.proofs.lemmas.Option.{slice_get-map, slice_get_read}
use Rattle.harvester.specs.declared.harvester.Harvester.{Harvester}
use Rattle.lanes.specs.Laning.{laning}
use Rattle.lanes.specs.declared.seat.Seat.{Seat}
use Rattle.lanes.proofs.Swapping.{map-swap_remove}
use Rattle.lanes.proofs.lane.Lane.release_at.Goals as goal

pub returns : goal.returns
returns g c =
    let old = laning c.args.self.now in
    let items = c.args.self.now.seats.items in
    let seat = c.swap_remove.result in
    let within : c.args.seat < length items = omega (arith, c.requires, length-map items (λ (s : Seat g.row.T.Denot). s.harvester)) in
    record {
      was = slice_get-map (λ (s : Seat g.row.T.Denot). s.harvester) items c.args.seat ∙ ap (option_map (λ (s : Seat g.row.T.Denot). s.harvester)) (slice_get_read items (length items) c.args.seat seat refl within c.swap_remove.ensures.value);
      is = c.move_place.ensures
          ∙ ap (λ (l : List (Seat g.row.T.Denot)). record old { harvesters = map (λ (s : Seat g.row.T.Denot). s.harvester) l }) c.swap_remove.ensures.items
          ∙ ap (λ (l : List (Harvester g.row.T.Denot)). record old { harvesters = l }) (map-swap_remove (λ (s : Seat g.row.T.Denot). s.harvester) items c.args.seat seat within);
    }
