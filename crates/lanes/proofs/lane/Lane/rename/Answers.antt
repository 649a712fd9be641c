use lib.ListN.{length-map}
use Rattle.std.specs.Option.{option_map}
use Rattle.std.proofs.Common.{◌≡◌, ◌<◌, List, Some, length, slice_get, refl, sym, ap, subst, ◌∙◌, arith}
use Rattle.std.proofs.lemmas.List.{map-set}
use Rattle.std.proofs.lemmas.Option.{same_Some, slice_get-map, slice_get_read, slice_get_within}
use Rattle.harvester.specs.declared.harvester.Harvester.{Harvester}
use Rattle.lanes.specs.Laning.{IsOfSlot, laning}
use Rattle.lanes.specs.declared.seat.Seat.{Seat}
use Rattle.lanes.proofs.lane.Lane.rename.Goals as goal

pub returns-clause-renamed : goal.returns-clause-renamed
returns-clause-renamed g c =
    let old = laning c.args.self.now in
    let items = c.args.self.now.seats.items in
    let all = old.harvesters in
    let stands = c.in-Some.ensures.stands in
    let place = c.in-Some.place in
    let seat = c.index_mut-seat.result.now in
    let many = length-map items (λ (s : Seat g.row.T.Denot). s.harvester) in
    let within : place < length all = slice_get_within all place stands.one stands.is in
    let at : slice_get all place ≡ Some seat.harvester = slice_get-map (λ (s : Seat g.row.T.Denot). s.harvester) items place ∙ ap (option_map (λ (s : Seat g.row.T.Denot). s.harvester)) (slice_get_read items (length items) place seat refl (omega (arith, within, many)) c.index_mut-seat.ensures.value) in
    let later : Seat g.row.T.Denot = record { harvester = c.rename.new.self; goes_on = seat.goes_on } in
    record {
      index = place;
      before = seat.harvester;
      after = later.harvester;
      was = at;
      of_slot = subst (λ (h : Harvester g.row.T.Denot). IsOfSlot c.args.slot h) (same_Some stands.one seat.harvester (sym stands.is ∙ at)) stands.of_slot;
      changes = record { renamed = c.rename.ensures.renamed; keeps = record { others = c.rename.ensures.others; events_kept = c.rename.ensures.events_kept; begin_kept = c.rename.ensures.begin_kept; changed_kept = c.rename.ensures.changed_kept } };
      is = ap (λ (l : List (Harvester g.row.T.Denot)). record old { harvesters = l }) (map-set (λ (s : Seat g.row.T.Denot). s.harvester) items place later);
    }
