use Rattle.std.proofs.Common.{◌≡◌, ◌+◌, take, arith, refl, sym, ap, ◌∙◌}
use Rattle.lumber_client.specs.Held.{Held}
use Rattle.settled_parcels.specs.Handing.{with_all_handed}
use Rattle.settled_parcels.proofs.Handing.{handed_more, handed_none, next_taken}
use Rattle.settled_parcels.proofs.settled.hand_out_settled.Goals as goal

pub parcels-init : goal.parcels-init
parcels-init c = record {
  handed = omega arith;
  parcels = refl;
  stands = λ e s. handed_none _ e s;
  in_flight = refl;
  out = refl;
  hearing = refl;
  most = refl;
  depth = refl;
}

pub parcels-preserved-in-Some : goal.parcels-preserved-in-Some
parcels-preserved-in-Some c =
    let is = c.parcels.invariant in
    let init = c.args.window.now in
    let n = c.parcels.count in
    let parcel = c.in-Some.field-0 in
    let next = next_taken init.parcels n parcel c.settled.new.self.parcels (sym is.parcels ∙ c.in-Some.ensures.first) in
    record {
      handed = omega (arith, is.handed, c.in-Some.ensures.fewer);
      parcels = sym next.1;
      stands = λ e s. handed_more c.settled.new.self e (take n init.parcels) (take (n + 1) init.parcels) parcel next.0 (c.in-Some.ensures.stands (with_all_handed e (take n init.parcels)) (is.stands e s));
      in_flight = ap (λ (w : Held). w.in_flight) c.in-Some.ensures.others_stay ∙ is.in_flight;
      out = ap (λ (w : Held). w.out) c.in-Some.ensures.others_stay ∙ is.out;
      hearing = ap (λ (w : Held). w.hearing) c.in-Some.ensures.others_stay ∙ is.hearing;
      most = ap (λ (w : Held). w.most) c.in-Some.ensures.others_stay ∙ is.most;
      depth = ap (λ (w : Held). w.depth) c.in-Some.ensures.others_stay ∙ is.depth;
    }
