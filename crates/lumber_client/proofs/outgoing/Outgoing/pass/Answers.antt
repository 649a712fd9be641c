use Rattle.std.proofs.Common.{◌≡◌, ◌+◌, ◌≤◌, Option, ℕ, nat_lt, length, arith, subst, sym, ap, ◌∙◌}
use Rattle.std.specs.Bool.{then_some}
use Rattle.std.specs.VecDeque.{deque_capacity}
use Rattle.lumber_client.specs.Exchange.{payloads_of}
use Rattle.lumber_client.specs.Laying.{Laying, IsLent, last_laid, lent_after, passed_by, piece_of}
use Rattle.lumber_client.specs.contracts.outgoing.Outgoing.{the_view}
use Rattle.lumber_client.proofs.Goings.{front_within, last_small, lent_there, passed_rest, rest_within, then_lent}
use Rattle.lumber_client.proofs.outgoing.Outgoing.pass.Goals as goal

pub overflow_add-self : goal.overflow_add-self
overflow_add-self c =
    let o = c.self.inside in
    let payloads = payloads_of c.args.parcels.now.items in
    let few = subst (λ (l : Laying). c.args.n ≤ length (piece_of l payloads c.args.begun)) (sym c.self.view_is) c.requires.within in
    let within = front_within (the_view o) payloads c.args.begun c.args.n (omega (arith, c.if-self-len.true, c.len.ensures, o.buffer.ok.0)) few in
    omega (arith, within, c.len.ensures, c.len.type_inv, o.buffer.ok.0)

pub invariant_of-self : goal.invariant_of-self
invariant_of-self c =
    let o = c.self.inside in
    let payloads = payloads_of c.args.parcels.now.items in
    let few = subst (λ (l : Laying). c.args.n ≤ length (piece_of l payloads c.args.begun)) (sym c.self.view_is) c.requires.within in
    let within = front_within (the_view o) payloads c.args.begun c.args.n (omega (arith, c.if-self-len.true, c.len.ensures, o.buffer.ok.0)) few in
    record { capacity = c.self.invariant.capacity; fits = c.self.invariant.fits; start = omega (arith, within, o.buffer.ok.0); numbers = c.self.invariant.numbers }

pub overflow_add-sent : goal.overflow_add-sent
overflow_add-sent c =
    let o = c.self.inside in
    let l = the_view o in
    let parcels = c.args.parcels.now in
    let payloads = payloads_of parcels.items in
    let few = subst (λ (v : Laying). c.args.n ≤ length (piece_of v payloads c.args.begun)) (sym c.self.view_is) c.requires.within in
    let lent = subst (λ (v : Laying). IsLent v.lent v.to_lay c.args.begun (last_laid v payloads c.args.begun)) (sym c.self.view_is) c.requires.lent in
    let small = last_small l parcels.items c.args.begun c.in-Some.before (omega (arith, c.requires.begun, parcels.ok.0)) c.requires.range lent c.in-Some.is in
    let within = rest_within l payloads c.args.begun c.args.n c.in-Some.before (omega (arith, c.if-self-len.false, c.len.ensures, o.buffer.ok.0)) c.in-Some.is small.0 few in
    omega (arith, within, small.1)

pub returns : goal.returns
returns c =
    let o = c.self.inside in
    let l = the_view o in
    let n = c.args.n in
    let parcels = c.args.parcels.now in
    let payloads = payloads_of parcels.items in
    let payload = last_laid l payloads c.args.begun in
    let sent = c.in-Some.before + n in
    let lent = subst (λ (v : Laying). IsLent v.lent v.to_lay c.args.begun (last_laid v payloads c.args.begun)) (sym c.self.view_is) c.requires.lent in
    let there = lent_there l parcels.items c.args.begun c.in-Some.before c.index.result.now (omega (arith, c.requires.begun, parcels.ok.0)) lent c.in-Some.is c.index.ensures in
    let size : length c.bytes-size.result.now ≡ length payload = ap length (c.bytes-size.ensures ∙ sym there.0) in
    let lent_is : c.then_some-self-inside.result ≡ lent_after l.lent n payload = c.then_some-self-inside.ensures ∙ ap (λ (k : ℕ). then_some (nat_lt sent k) sent) size ∙ then_lent (nat_lt sent (length payload)) sent ∙ ap (λ (lent_now : Option ℕ). lent_after lent_now n payload) (sym c.in-Some.is) in
    (λ k. record {
      depth = deque_capacity o.unlaid;
      buffer = o.buffer.items;
      start = o.start;
      lent = lent_is k;
      laid = o.laid;
      left = o.left;
      unlaid = o.unlaid.items;
      to_lay = o.to_lay;
    })
    ∙ sym (passed_rest l n payload (omega (arith, c.if-self-len.false, c.len.ensures, o.buffer.ok.0)))
    ∙ ap (λ (v : Laying). passed_by v n (last_laid v payloads c.args.begun)) c.self.view_is
