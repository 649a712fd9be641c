use Rattle.std.proofs.Common.{◌≡◌, ◌+◌, ◌<◌, ◌≤◌, ◌∷◌, [], List, length, drop, arith, ap, sym, subst, ◌∙◌, length-append}
use Rattle.std.specs.List.{All}
use Rattle.std.proofs.lemmas.List.{length-drop}
use Rattle.std.proofs.lemmas.List.Elements.{All-push}
use Rattle.wire_base.specs.declared.parcel.Parcel.{Parcel}
use Rattle.wire_base.specs.Ranges.{IsParcel}
use Rattle.lumber_client.specs.Held.{Held, waiting_in}
use Rattle.lumber_client.proofs.Goings.{offered_behind, offered_lent, offered_piece}
use Rattle.lumber_client.proofs.Rooms.{flights_few}
use Rattle.lumber_client.proofs.window.Window.push.Goals as goal

pub push_back_reserved-requires : goal.push_back_reserved-requires
push_back_reserved-requires c =
    let w = c.self.inside in
    let is = c.self.invariant in
    let room = subst (λ (v : Held). length (waiting_in v) < v.most) (sym c.self.view_is) c.requires.room in
    let none = ap (λ (v : Held). v.acknowledged) c.self.view_is ∙ c.requires.nothing_to_settle in
    let few : length w.flights.items ≤ w.depth = omega (arith, is.few, w.flights.ok.0) in
    omega (arith, room, none, is.within, is.room, is.counted, length-drop (w.acknowledged + w.in_flight) w.parcels.items, w.parcels.ok.0, flights_few w.most w.depth w.flights.items is.counts few)

pub invariant_of-self : goal.invariant_of-self
invariant_of-self c =
    let w = c.self.inside in
    let is = c.self.invariant in
    let new = c.push_back_reserved.new.self in
    let all = c.push_back_reserved.ensures.items in
    let begun = w.acknowledged + w.in_flight in
    let within : begun ≤ length w.parcels.items = omega (arith, is.within, w.parcels.ok.0) in
    let bound : w.in_flight ≤ begun = omega arith in record {
      most = is.most;
      within = omega (arith, is.within, c.push_back_reserved.ensures.len);
      parcels = subst (λ (ps : List Parcel). All IsParcel ps) (sym all) (All-push IsParcel w.parcels.items c.args.parcel is.parcels c.requires.range);
      room = omega (arith, is.room, c.push_back_reserved.ensures.capacity);
      counted = is.counted;
      counts = is.counts;
      part = is.part;
      few = is.few;
      flights_room = is.flights_room;
      laying_room = is.laying_room;
      unlaid = is.unlaid;
      laying = is.laying;
      to_lay = is.to_lay;
      lent = offered_lent w.outgoing w.parcels.items new.items c.args.parcel begun w.in_flight all within bound is.lent;
      idle = λ none. is.idle (sym (offered_piece w.outgoing w.parcels.items new.items c.args.parcel begun w.in_flight all within bound is.lent) ∙ none);
    }

pub returns-clause-offered : goal.returns-clause-offered
returns-clause-offered c =
    let w = c.self.inside in
    let is = c.self.invariant in
    let new = c.push_back_reserved.new.self in
    let all = c.push_back_reserved.ensures.items in
    let begun = w.acknowledged + w.in_flight in
    let within : begun ≤ length w.parcels.items = omega (arith, is.within, w.parcels.ok.0) in
    let bound : w.in_flight ≤ begun = omega arith in
    let few : w.outgoing.to_lay ≤ begun = omega (arith, is.to_lay) in
    rw (← c.self.view_is) (λ k. record {
      most = w.most;
      depth = w.depth;
      parcels = all k;
      acknowledged = w.acknowledged;
      in_flight = w.in_flight;
      flights = w.flights.items;
      done = w.done;
      last = w.last;
      out = offered_piece w.outgoing w.parcels.items new.items c.args.parcel begun w.in_flight all within bound is.lent k;
      behind = offered_behind w.outgoing w.parcels.items new.items c.args.parcel begun w.in_flight all within bound is.lent is.laying few k;
      hearing = w.incoming;
    })

pub returns-clause-one_more_waits : goal.returns-clause-one_more_waits
returns-clause-one_more_waits c =
    let w = c.self.inside in
    let is = c.self.invariant in
    let new = c.push_back_reserved.new.self in
    let begun = w.acknowledged + w.in_flight in
    let within : begun ≤ length w.parcels.items = omega (arith, is.within, w.parcels.ok.0) in
    let longer : length new.items ≡ length w.parcels.items + 1 = omega (arith, ap length c.push_back_reserved.ensures.items, length-append w.parcels.items (c.args.parcel ∷ [])) in
    let before : length (drop begun w.parcels.items) + begun ≡ length w.parcels.items = omega (arith, length-drop begun w.parcels.items) in
    let now : length (drop begun new.items) + begun ≡ length new.items = omega (arith, length-drop begun new.items) in
    rw (← c.self.view_is) (omega (arith, before, now, longer))
