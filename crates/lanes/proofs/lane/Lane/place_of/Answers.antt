use lib.ListN.{length-map}
use lib.Seq.{drop-cons}
use Rattle.std.specs.Option.{option_map}
use Rattle.std.specs.Prelude.{All}
use Rattle.std.proofs.Common.{◌≡◌, ℕ, suc, ◌-◌, ◌<◌, List, ◌∷◌, length, drop, get_or, refl, sym, ap, subst, ◌∙◌, rules, arith}
use Rattle.std.proofs.lemmas.List.Elements.{All-cons}
use Rattle.std.proofs.lemmas.Option.{get_or_from_slice_get, slice_get-map, slice_get_read}
use Rattle.harvester.specs.declared.harvester.Harvester.{Harvester}
use Rattle.lanes.specs.Laning.{IsOfAnother, laning}
use Rattle.lanes.specs.declared.seat.Seat.{Seat}
use Rattle.lanes.proofs.lane.Lane.place_of.Goals as goal

pub returns-then-eq-clause-stands : goal.returns-then-eq-clause-stands
returns-then-eq-clause-stands g c =
    let items = c.args.self.now.seats.items in
    let seat = c.index.result.now in
    let place = c.seats.index - 1 in
    let within : place < length items = omega (arith, c.seats.invariant.within, c.seats-test.true, length-map items (λ (s : Seat g.row.T.Denot). s.harvester)) in
    let at = slice_get_read items (length items) place seat refl within c.index.ensures in
    record {
      one = seat.harvester;
      is = slice_get-map (λ (s : Seat g.row.T.Denot). s.harvester) items place ∙ ap (option_map (λ (s : Seat g.row.T.Denot). s.harvester)) at;
      of_slot = sym c.slot.ensures ∙ search (rules, c.if-eq.ensures);
    }

pub seats-preserved : goal.seats-preserved
seats-preserved g c =
    let items = c.args.self.now.seats.items in
    let all = (laning c.args.self.now).harvesters in
    let seat = c.index.result.now in
    let place = c.seats.index - 1 in
    let many = length-map items (λ (s : Seat g.row.T.Denot). s.harvester) in
    let within : place < length items = omega (arith, c.seats.invariant.within, c.seats-test.true, many) in
    let at = slice_get-map (λ (s : Seat g.row.T.Denot). s.harvester) items place ∙ ap (option_map (λ (s : Seat g.row.T.Denot). s.harvester)) (slice_get_read items (length items) place seat refl within c.index.ensures) in
    let here : get_or all place seat.harvester ≡ seat.harvester = get_or_from_slice_get all place seat.harvester seat.harvester at in
    let next : suc place ≡ c.seats.index = omega (arith, c.seats-test.true) in
    let cons : drop place all ≡ seat.harvester ∷ drop c.seats.index all =
    drop-cons all place seat.harvester (omega (arith, within, many)) ∙ ap (λ (h : Harvester g.row.T.Denot). h ∷ drop (suc place) all) here ∙ ap (λ (n : ℕ). seat.harvester ∷ drop n all) next in
    let other : IsOfAnother c.args.slot seat.harvester = λ same. search (rules, c.if-eq.ensures, c.slot.ensures ∙ same) in
    record {
      within = omega (arith, c.seats.invariant.within);
      none = subst (λ (hs : List (Harvester g.row.T.Denot)). All (IsOfAnother c.args.slot) hs) (sym cons) (All-cons (IsOfAnother c.args.slot) seat.harvester (drop c.seats.index all) other c.seats.invariant.none);
    }
