use Rattle.std.proofs.Common.{◌-◌, Option, ℕ, length, drop, arith, subst, sym, ap, ◌∙◌}
use Rattle.std.proofs.lemmas.List.{length-drop, take_all}
use Rattle.lumber_client.specs.Exchange.{payloads_of}
use Rattle.lumber_client.specs.Laying.{Laying, IsLent, last_laid, lent_rest, piece_of}
use Rattle.lumber_client.specs.contracts.outgoing.Outgoing.{the_view}
use Rattle.lumber_client.proofs.Goings.{lent_there, piece_front, piece_lent}
use Rattle.lumber_client.proofs.outgoing.Outgoing.piece.Goals as goal

pub returns-then-self-len : goal.returns-then-self-len
returns-then-self-len c =
    let o = c.self.inside in
    let l = the_view o in
    let payloads = payloads_of c.args.parcels.now.items in
    let bytes = c.deref.result.now in
    take_all (length bytes - o.start) (drop o.start bytes) (omega (arith, length-drop o.start bytes))
    ∙ ap (drop o.start) c.deref.ensures.value
    ∙ sym (piece_front l payloads c.args.begun (omega (arith, c.if-self-len.true, c.len.ensures, o.buffer.ok.0)))
    ∙ ap (λ (v : Laying). piece_of v payloads c.args.begun) c.self.view_is

pub slice_bounds-result-count-in-Some : goal.slice_bounds-result-count-in-Some
slice_bounds-result-count-in-Some c =
    let parcels = c.args.parcels.now in
    let lent = subst (λ (l : Laying). IsLent l.lent l.to_lay c.args.begun (last_laid l (payloads_of parcels.items) c.args.begun)) (sym c.self.view_is) c.requires.lent in
    let there = lent_there (the_view c.self.inside) parcels.items c.args.begun c.in-Some.sent c.index.result.now (omega (arith, c.requires.begun, parcels.ok.0)) lent c.in-Some.is c.index.ensures in
    omega (arith, there.1, ap length c.bytes.ensures)

pub slice_bounds-result-start-in-Some : goal.slice_bounds-result-start-in-Some
slice_bounds-result-start-in-Some c =
    let parcels = c.args.parcels.now in
    let lent = subst (λ (l : Laying). IsLent l.lent l.to_lay c.args.begun (last_laid l (payloads_of parcels.items) c.args.begun)) (sym c.self.view_is) c.requires.lent in
    let there = lent_there (the_view c.self.inside) parcels.items c.args.begun c.in-Some.sent c.index.result.now (omega (arith, c.requires.begun, parcels.ok.0)) lent c.in-Some.is c.index.ensures in
    omega (arith, there.1, ap length c.bytes.ensures)

pub returns-in-Some : goal.returns-in-Some
returns-in-Some c =
    let o = c.self.inside in
    let l = the_view o in
    let parcels = c.args.parcels.now in
    let payloads = payloads_of parcels.items in
    let bytes = c.bytes.result.now in
    let lent = subst (λ (v : Laying). IsLent v.lent v.to_lay c.args.begun (last_laid v payloads c.args.begun)) (sym c.self.view_is) c.requires.lent in
    let there = lent_there l parcels.items c.args.begun c.in-Some.sent c.index.result.now (omega (arith, c.requires.begun, parcels.ok.0)) lent c.in-Some.is c.index.ensures in
    take_all (length bytes - c.in-Some.sent) (drop c.in-Some.sent bytes) (omega (arith, length-drop c.in-Some.sent bytes))
    ∙ ap (drop c.in-Some.sent) (c.bytes.ensures ∙ sym there.0)
    ∙ ap (λ (lent_now : Option ℕ). lent_rest lent_now (last_laid l payloads c.args.begun)) (sym c.in-Some.is)
    ∙ sym (piece_lent l payloads c.args.begun (omega (arith, c.if-self-len.false, c.len.ensures, o.buffer.ok.0)))
    ∙ ap (λ (v : Laying). piece_of v payloads c.args.begun) c.self.view_is

pub returns-in-None : goal.returns-in-None
returns-in-None c =
    let o = c.self.inside in
    let l = the_view o in
    let payloads = payloads_of c.args.parcels.now.items in
    ap (λ (lent_now : Option ℕ). lent_rest lent_now (last_laid l payloads c.args.begun)) (sym c.in-None.is)
    ∙ sym (piece_lent l payloads c.args.begun (omega (arith, c.if-self-len.false, c.len.ensures, o.buffer.ok.0)))
    ∙ ap (λ (v : Laying). piece_of v payloads c.args.begun) c.self.view_is
