use Rattle.std.proofs.Common.{rules, ◌<◌, ℕ, List, length, take, arith, sym, ap, subst, ◌∙◌}
use Rattle.std.proofs.lemmas.List.{length-take}
use Rattle.lumber_client.specs.Exchange.{Exchange, with_sent}
use Rattle.lumber_client.specs.Held.{Held}
use Rattle.lumber_client.specs.Standing.{StandsFor}
use Rattle.spool_queue.proofs.Talkings.{goes_out_more}
use Rattle.spool_queue.proofs.sending.send_out.Goals as goal

pub pieces-preserved : goal.pieces-preserved
pieces-preserved g c =
    let is = c.pieces.invariant in
    let piece = c.out-in-pieces.result.now in
    let n = c.in-Ok.count in
    let left : 0 < length c.out.result.now = search rules in
    let some : 0 < length piece = omega (arith, left, ap length (c.out-in-pieces.ensures.piece ∙ sym c.out.ensures.piece)) in
    let more : 0 < n = c.in-Ok.ensures.at_least_one_byte some in
    let taken : 0 < length (take n piece) = omega (arith, more, length-take n piece, c.in-Ok.ensures.within_the_piece) in
    let S : List ℕ → Type 0 = λ l. (f : Exchange) → StandsFor c.pieces.window f → StandsFor c.sent.new.self (with_sent f (take n l)) in
    record {
      goes_out = λ began e talks. goes_out_more c.pieces.window c.sent.new.self began _ _ e piece n taken (is.goes_out began e talks) c.in-Ok.ensures.told (subst S (sym c.out-in-pieces.ensures.piece) c.sent.ensures.stands);
      parcels = ap (λ (w : Held). w.parcels) c.sent.ensures.sent ∙ is.parcels;
      acknowledged = ap (λ (w : Held). w.acknowledged) c.sent.ensures.sent ∙ is.acknowledged;
      in_flight = ap (λ (w : Held). w.in_flight) c.sent.ensures.sent ∙ is.in_flight;
      most = ap (λ (w : Held). w.most) c.sent.ensures.sent ∙ is.most;
      depth = ap (λ (w : Held). w.depth) c.sent.ensures.sent ∙ is.depth;
      hearing = ap (λ (w : Held). w.hearing) c.sent.ensures.sent ∙ is.hearing;
      faults = omega (arith, is.faults, c.send.ensures.faults_never_fall);
      idles = omega (arith, is.idles, c.send.ensures.idles_never_fall);
    }
