use Rattle.std.proofs.Common.{◌+◌, ◌≤◌, ◌++◌, length, drop, arith, ap, sym, subst, ◌∙◌}
use Rattle.lumber_client.specs.Exchange.{payloads_of}
use Rattle.lumber_client.specs.Held.{Held}
use Rattle.lumber_client.specs.Laying.{Laying, last_laid}
use Rattle.lumber_client.proofs.Goings.{lent_passed, lent_within, passed_bytes, rest_none}
use Rattle.lumber_client.proofs.window.Window.pass.Goals as goal

pub refill-requires-clause-lent : goal.refill-requires-clause-lent
refill-requires-clause-lent c =
    let w = c.self.inside in
    let payloads = payloads_of w.parcels.items in
    let begun = w.acknowledged + w.in_flight in
    lent_passed w.outgoing c.pass.new.self payloads begun begun c.args.n c.pass.ensures (lent_within w.outgoing.lent w.outgoing.to_lay w.in_flight begun (last_laid w.outgoing payloads begun) (omega arith) c.self.invariant.lent)

pub invariant_of-self : goal.invariant_of-self
invariant_of-self c =
    let w = c.self.inside in
    let is = c.self.invariant in
    let payloads = payloads_of w.parcels.items in
    let begun = w.acknowledged + w.in_flight in
    let r = c.refill.ensures in
    let to_lay = ap (λ (l : Laying). l.to_lay) c.pass.ensures in record {
      most = is.most;
      within = is.within;
      parcels = is.parcels;
      room = is.room;
      counted = is.counted;
      counts = is.counts;
      part = is.part;
      few = is.few;
      flights_room = is.flights_room;
      laying_room = omega (arith, is.laying_room, r.depth, ap (λ (l : Laying). l.depth) c.pass.ensures);
      unlaid = omega (arith, is.unlaid, r.fewer_windows, ap (λ (l : Laying). length l.unlaid) c.pass.ensures);
      laying = r.counted;
      to_lay = omega (arith, is.to_lay, r.fewer_to_lay, to_lay);
      lent = r.lent w.in_flight (omega (arith, is.to_lay, to_lay)) (lent_passed w.outgoing c.pass.new.self payloads begun w.in_flight c.args.n c.pass.ensures is.lent);
      idle = r.something_or_all_out;
    }

pub returns-clause-rest : goal.returns-clause-rest
returns-clause-rest c =
    let w = c.self.inside in
    let payloads = payloads_of w.parcels.items in
    let begun = w.acknowledged + w.in_flight in
    let few = subst (λ (v : Held). c.args.n ≤ length v.out) (sym c.self.view_is) c.requires in
    passed_bytes w.outgoing c.pass.new.self c.refill.new.self payloads begun c.args.n few c.pass.ensures c.refill.ensures.same_bytes
    ∙ ap (λ (v : Held). drop c.args.n (v.out ++ v.behind)) c.self.view_is

pub returns-clause-nothing_behind : goal.returns-clause-nothing_behind
returns-clause-nothing_behind c =
    let w = c.self.inside in
    rest_none c.refill.new.self (payloads_of w.parcels.items) (w.acknowledged + w.in_flight) c.refill.ensures.something_or_all_out
