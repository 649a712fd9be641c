use Rattle.std.proofs.Common.{◌≡◌, ◌+◌, ◌<◌, ◌≤◌, ◌∷◌, [], Some, List, ℕ, length, arith, ap, sym, subst, ◌∙◌}
use Rattle.std.specs.List.{AllByRecursion}
use Rattle.lumber_client.specs.Exchange.{payloads_of}
use Rattle.lumber_client.specs.Held.{Held, IsPart, oldest_of, total}
use Rattle.lumber_client.specs.Laying.{piece_of}
use Rattle.lumber_client.proofs.Goings.{lent_nowhere, none_lent}
use Rattle.lumber_client.proofs.Rooms.{oldest_first, part_next}
use Rattle.lumber_client.proofs.window.Window.acknowledge.Goals as goal

pub invariant_of-self-2 : goal.invariant_of-self-2
invariant_of-self-2 c =
    let w = c.self.inside in
    let is = c.self.invariant in
    let count = c.args.count in
    let new = c.pop_front.new.self in
    let begun = w.acknowledged + w.in_flight in
    let payloads = payloads_of w.parcels.items in
    let more = subst (λ (v : Held). v.done < c.args.number) (sym c.self.view_is) c.requires.more in
    let oldest : oldest_of w.flights.items ≡ Some count = ap (λ (v : Held). oldest_of v.flights) c.self.view_is ∙ c.requires.oldest in
    let flights : w.flights.items ≡ count ∷ new.items = oldest_first w.flights.items count oldest ∙ ap (λ (rest : List ℕ). count ∷ rest) (sym c.pop_front.ensures.rest) in
    let all_out : piece_of w.outgoing payloads begun ≡ [] = ap (λ (v : Held). v.out) c.self.view_is ∙ c.requires.all_is_out in
    let idle = is.idle all_out in
    let sum : total w.flights.items ≡ count + total new.items = ap total flights in
    let part : w.done < count = subst (λ (counts : List ℕ). IsPart w.done counts) flights is.part in
    let each = (subst (λ (counts : List ℕ). AllByRecursion (λ k. (0 < k) × (k ≤ w.most)) counts) flights is.counts).1 in record {
      most = is.most;
      within = omega (arith, is.within, is.counted, sum, c.if-number-count.false, c.requires.few, more);
      parcels = is.parcels;
      room = is.room;
      counted = omega (arith, is.counted, sum, c.if-number-count.false, c.requires.few, more);
      counts = each;
      part = part_next w.most new.items each;
      few = omega (arith, is.few, ap length flights, w.flights.ok.0, new.ok.0);
      flights_room = omega (arith, is.flights_room, c.pop_front.ensures.capacity);
      laying_room = is.laying_room;
      unlaid = omega (arith, ap length idle.unlaid);
      laying = is.laying;
      to_lay = omega (arith, idle.to_lay);
      lent = lent_nowhere w.outgoing.lent w.outgoing.to_lay _ _ (none_lent w.outgoing payloads begun w.in_flight all_out is.lent);
      idle = λ none. idle;
    }
