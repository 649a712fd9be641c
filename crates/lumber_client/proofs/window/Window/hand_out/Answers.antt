use Rattle.std.proofs.Common.{◌≡◌, ◌+◌, ◌-◌, ◌<◌, ◌≤◌, suc, arith, sym, subst, ◌∙◌}
use Rattle.std.proofs.lemmas.List.Elements.{All-rest}
use Rattle.wire_base.specs.Ranges.{IsParcel}
use Rattle.lumber_client.specs.Held.{Held}
use Rattle.lumber_client.proofs.Goings.{handed_behind, handed_lent, handed_piece}
use Rattle.lumber_client.proofs.window.Window.hand_out.Goals as goal

pub invariant_of-self : goal.invariant_of-self
invariant_of-self c =
    let w = c.self.inside in
    let is = c.self.invariant in
    let rest = c.pop_front.new.self.items in
    let parcel = c.in-Some.parcel in
    let parcels = c.in-Some.ensures.items in
    let some = subst (λ (v : Held). 0 < v.acknowledged) (sym c.self.view_is) c.requires in
    let was = w.acknowledged + w.in_flight in
    let begun = w.acknowledged - 1 + w.in_flight in
    let number : was ≡ suc begun = omega (arith, some) in
    let bound : w.in_flight ≤ begun = omega arith in record {
      most = is.most;
      within = omega (arith, is.within, some, c.in-Some.ensures.len);
      parcels = All-rest IsParcel parcel rest w.parcels.items parcels is.parcels;
      room = omega (arith, is.room, c.pop_front.ensures.capacity);
      counted = is.counted;
      counts = is.counts;
      part = is.part;
      few = is.few;
      flights_room = is.flights_room;
      laying_room = is.laying_room;
      unlaid = is.unlaid;
      laying = is.laying;
      to_lay = is.to_lay;
      lent = handed_lent w.outgoing w.parcels.items rest parcel was begun w.in_flight parcels number bound is.lent;
      idle = λ none. is.idle (sym (handed_piece w.outgoing w.parcels.items rest parcel was begun w.in_flight parcels number bound is.lent) ∙ none);
    }

pub returns-clause-others_stay : goal.returns-clause-others_stay
returns-clause-others_stay c =
    let w = c.self.inside in
    let is = c.self.invariant in
    let rest = c.pop_front.new.self.items in
    let parcel = c.in-Some.parcel in
    let parcels = c.in-Some.ensures.items in
    let some = subst (λ (v : Held). 0 < v.acknowledged) (sym c.self.view_is) c.requires in
    let was = w.acknowledged + w.in_flight in
    let begun = w.acknowledged - 1 + w.in_flight in
    let number : was ≡ suc begun = omega (arith, some) in
    let bound : w.in_flight ≤ begun = omega arith in
    let few : w.outgoing.to_lay ≤ begun = omega (arith, is.to_lay) in
    rw (← c.self.view_is) (λ k. record {
      most = w.most;
      depth = w.depth;
      parcels = rest;
      acknowledged = w.acknowledged - 1;
      in_flight = w.in_flight;
      flights = w.flights.items;
      done = w.done;
      last = w.last;
      out = handed_piece w.outgoing w.parcels.items rest parcel was begun w.in_flight parcels number bound is.lent k;
      behind = handed_behind w.outgoing w.parcels.items rest parcel was begun w.in_flight parcels number bound is.lent few k;
      hearing = w.incoming;
    })
