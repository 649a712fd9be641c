use Rattle.std.proofs.Common.{◌≤◌, length, subst, sym, arith}
use Rattle.lumber_client.specs.Exchange.{payloads_of}
use Rattle.lumber_client.specs.Laying.{Laying, LaysNoMore}
use Rattle.lumber_client.proofs.Laid.{Lays, lays_first, lays_more, refills}
use Rattle.lumber_client.proofs.Nexts.{payloads_number}
use Rattle.lumber_client.proofs.outgoing.Outgoing.lay.Goals as goal

pub loop-init : goal.loop-init
loop-init c =
    let payloads = payloads_of c.args.parcels.now.items in
    subst (λ (l : Laying). Lays c.args.self.now l payloads c.args.begun) (sym c.empty.ensures) (lays_first c.args.self.now payloads c.args.begun c.requires.out c.requires.none_lent c.requires.counted)

pub lay_next-requires-clause-to_lay : goal.lay_next-requires-clause-to_lay
lay_next-requires-clause-to_lay c = omega (arith, c.loop.invariant.to_lay, c.requires.to_lay)

pub lay_next-requires-clause-counted : goal.lay_next-requires-clause-counted
lay_next-requires-clause-counted c = c.loop.invariant.counted

pub loop-smaller : goal.loop-smaller
loop-smaller c =
    let parcels = c.args.parcels.now in
    let within : c.args.begun ≤ length (payloads_of parcels.items) = omega (arith, c.requires.begun, parcels.ok.0, payloads_number parcels.items) in
    (lays_more c.args.self.now c.loop.self c.lay_next.new.self (payloads_of parcels.items) c.args.begun c.loop.invariant c.requires.to_lay within c.loop-test.ensures.lays).1

pub loop-preserved : goal.loop-preserved
loop-preserved c =
    let parcels = c.args.parcels.now in
    let within : c.args.begun ≤ length (payloads_of parcels.items) = omega (arith, c.requires.begun, parcels.ok.0, payloads_number parcels.items) in
    (lays_more c.args.self.now c.loop.self c.lay_next.new.self (payloads_of parcels.items) c.args.begun c.loop.invariant c.requires.to_lay within c.loop-test.ensures.lays).0

pub returns : goal.returns
returns c =
    let payloads = payloads_of c.args.parcels.now.items in
    let still = c.loop-test.ensures.lays in
    refills c.args.self.now c.lay_next.new.self payloads c.args.begun
    (subst (λ (l : Laying). Lays c.args.self.now l payloads c.args.begun) (sym still.0) c.loop.invariant)
    (subst LaysNoMore (sym still.0) still.1)
