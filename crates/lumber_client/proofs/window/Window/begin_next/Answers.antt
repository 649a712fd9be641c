use Rattle.std.proofs.Common.{◌≡◌, ◌+◌, ◌-◌, ◌<◌, ◌≤◌, ◌∷◌, ◌++◌, [], List, ℕ, min, length, rules, arith, ap, sym, subst, ◌∙◌, refl}
use Rattle.std.specs.List.{AllByRecursion}
use Rattle.std.proofs.lemmas.List.{length-append, length-drop}
use Rattle.lumber_frame.specs.Window.{IsWindow, window_bytes}
use Rattle.lumber_client.specs.Exchange.{payloads_of}
use Rattle.lumber_client.specs.Held.{Held, IsPart, next_in, total, waiting_in}
use Rattle.lumber_client.specs.Laying.{Laying, last_laid}
use Rattle.lumber_client.proofs.Goings.{begun_bytes, begun_counted, begun_lent, lent_within, rest_none}
use Rattle.lumber_client.proofs.Nexts.{next_window}
use Rattle.lumber_client.proofs.Rooms.{each_more, part_more, total_more}
use Rattle.lumber_client.proofs.window.Window.begin_next.Goals as goal

pub refill-requires-clause-counted : goal.refill-requires-clause-counted
refill-requires-clause-counted c = begun_counted c.self.inside.outgoing c.add.new.self c.min-count.result c.add.ensures c.self.invariant.laying

pub refill-requires-clause-lent : goal.refill-requires-clause-lent
refill-requires-clause-lent c =
    let w = c.self.inside in
    let is = c.self.invariant in
    let count = c.min-count.result in
    let payloads = payloads_of w.parcels.items in
    let begun = w.acknowledged + w.in_flight in
    let now = w.acknowledged + (w.in_flight + count) in
    let few : w.outgoing.to_lay ≤ begun = omega (arith, is.to_lay) in
    let number : now ≡ begun + count = omega arith in
    begun_lent w.outgoing c.add.new.self payloads begun now begun now count few number number c.add.ensures (lent_within w.outgoing.lent w.outgoing.to_lay w.in_flight begun (last_laid w.outgoing payloads begun) (omega arith) is.lent)

pub invariant_of-self : goal.invariant_of-self
invariant_of-self c =
    let w = c.self.inside in
    let is = c.self.invariant in
    let count = c.min-count.result in
    let payloads = payloads_of w.parcels.items in
    let begun = w.acknowledged + w.in_flight in
    let now = w.acknowledged + (w.in_flight + count) in
    let few : w.outgoing.to_lay ≤ begun = omega (arith, is.to_lay) in
    let number : now ≡ begun + count = omega arith in
    let waiting : c.waiting.result ≡ length w.parcels.items - begun = c.waiting.ensures ∙ ap (λ (v : Held). length (waiting_in v)) (sym c.self.view_is) ∙ length-drop begun w.parcels.items in
    let some : 0 < count = omega (arith, c.requires.some, c.waiting.ensures, c.min-count.ensures, is.most) in
    let room = subst (λ (v : Held). length v.flights < v.depth) (sym c.self.view_is) c.requires.room in
    let flights = c.push_back_reserved.ensures.items in
    let r = c.refill.ensures in
    let to_lay = ap (λ (l : Laying). l.to_lay) c.add.ensures in record {
      most = is.most;
      within = omega (arith, is.within, waiting, c.min-count.ensures, w.parcels.ok.0);
      parcels = is.parcels;
      room = is.room;
      counted = omega (arith, is.counted, ap total flights, total_more w.flights.items count);
      counts = subst (λ (counts : List ℕ). AllByRecursion (λ k. (0 < k) × (k ≤ w.most)) counts) (sym flights) (each_more w.most w.flights.items count is.counts some (omega (arith, c.min-count.ensures)));
      part = subst (λ (counts : List ℕ). IsPart w.done counts) (sym flights) (part_more w.done w.flights.items count some is.part);
      few = omega (arith, c.push_back_reserved.ensures.len, room, w.flights.ok.0);
      flights_room = omega (arith, is.flights_room, c.push_back_reserved.ensures.capacity);
      laying_room = omega (arith, is.laying_room, r.depth, ap (λ (l : Laying). l.depth) c.add.ensures);
      unlaid = omega (arith, is.unlaid, r.fewer_windows, ap (λ (l : Laying). length l.unlaid) c.add.ensures, length-append w.outgoing.unlaid (count ∷ []), c.push_back_reserved.ensures.len);
      laying = r.counted;
      to_lay = omega (arith, is.to_lay, r.fewer_to_lay, to_lay);
      lent = r.lent (w.in_flight + count) (omega (arith, is.to_lay, to_lay)) (begun_lent w.outgoing c.add.new.self payloads begun now w.in_flight (w.in_flight + count) count few number refl c.add.ensures is.lent);
      idle = r.something_or_all_out;
    }

pub returns-clause-written : goal.returns-clause-written
returns-clause-written c =
    let w = c.self.inside in
    let is = c.self.invariant in
    let count = c.min-count.result in
    let begun = w.acknowledged + w.in_flight in
    let now = w.acknowledged + (w.in_flight + count) in
    let few : w.outgoing.to_lay ≤ begun = omega (arith, is.to_lay) in
    let number : now ≡ begun + count = omega arith in
    let waiting : c.waiting.result ≡ length w.parcels.items - begun = c.waiting.ensures ∙ ap (λ (v : Held). length (waiting_in v)) (sym c.self.view_is) ∙ length-drop begun w.parcels.items in
    let count_is : count ≡ min w.most (length w.parcels.items - begun) = omega (arith, c.min-count.ensures, waiting) in
    begun_bytes w.outgoing c.add.new.self c.refill.new.self w.parcels.items begun now count w.most is.laying few count_is number c.add.ensures c.refill.ensures.same_bytes
    ∙ ap (λ (v : Held). (v.out ++ v.behind) ++ window_bytes (payloads_of (next_in v))) c.self.view_is

pub returns-clause-nothing_behind : goal.returns-clause-nothing_behind
returns-clause-nothing_behind c =
    let w = c.self.inside in
    rest_none c.refill.new.self (payloads_of w.parcels.items) (w.acknowledged + (w.in_flight + c.min-count.result)) c.refill.ensures.something_or_all_out

pub returns-clause-range : goal.returns-clause-range
returns-clause-range c =
    let w = c.self.inside in
    let is = c.self.invariant in
    let begun = w.acknowledged + w.in_flight in
    let some = subst (λ (v : Held). 0 < length (waiting_in v)) (sym c.self.view_is) c.requires.some in
    subst (λ (v : Held). IsWindow (payloads_of (next_in v))) c.self.view_is (next_window w.parcels.items begun w.most is.parcels is.most (search rules) (omega (arith, some, length-drop begun w.parcels.items)))
