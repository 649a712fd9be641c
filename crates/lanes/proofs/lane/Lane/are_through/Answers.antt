use lib.ListN.{length-map}
use lib.Seq.{drop-cons}
use Rattle.std.specs.Option.{option_map}
use Rattle.std.specs.Prelude.{All}
use Rattle.std.proofs.Common.{◌≡◌, ℕ, suc, ◌-◌, ◌<◌, List, ◌∷◌, length, drop, get_or, refl, sym, ap, subst, ◌∙◌, arith}
use Rattle.std.proofs.lemmas.List.Elements.{All-cons}
use Rattle.std.proofs.lemmas.Option.{get_or_from_slice_get, slice_get-map, slice_get_read}
use Rattle.harvester.specs.declared.harvester.Harvester.{Harvester}
use Rattle.lanes.specs.Done.{IsThrough}
use Rattle.lanes.specs.Laning.{laning}
use Rattle.lanes.specs.declared.seat.Seat.{Seat}
use Rattle.lanes.proofs.lane.Lane.are_through.Goals as goal

pub returns-then-not-is_through-clause-some : goal.returns-then-not-is_through-clause-some
returns-then-not-is_through-clause-some g c =
    let items = c.args.self.now.seats.items in
    let all = (laning c.args.self.now).harvesters in
    let seat = c.index.result.now in
    let place = c.seats.index - 1 in
    let many = length-map items (λ (s : Seat g.row.T.Denot). s.harvester) in
    let within : place < length items = omega (arith, c.seats.invariant.within, c.seats-test.true, many) in
    let at = slice_get-map (λ (s : Seat g.row.T.Denot). s.harvester) items place ∙ ap (option_map (λ (s : Seat g.row.T.Denot). s.harvester)) (slice_get_read items (length items) place seat refl within c.index.ensures) in
    let here : get_or all place seat.harvester ≡ seat.harvester = get_or_from_slice_get all place seat.harvester seat.harvester at in
    λ through. c.if-not-is_through.ensures.work (subst (λ (h : Harvester g.row.T.Denot). IsThrough h) here (through place seat.harvester (omega (arith, within, many))))

pub seats-preserved : goal.seats-preserved
seats-preserved g c =
    let items = c.args.self.now.seats.items in
    let all = (laning c.args.self.now).harvesters in
    let seat = c.index.result.now in
    let place = c.seats.index - 1 in
    let many = length-map items (λ (s : Seat g.row.T.Denot). s.harvester) in
    let within : place < length items = omega (arith, c.seats.invariant.within, c.seats-test.true, many) in
    let at = slice_get-map (λ (s : Seat g.row.T.Denot). s.harvester) items place ∙ ap (option_map (λ (s : Seat g.row.T.Denot). s.harvester)) (slice_get_read items (length items) place seat refl within c.index.ensures) in
    let here : get_or all place seat.harvester ≡ seat.harvester = get_or_from_slice_get all place seat.harvester seat.harvester at in
    let next : suc place ≡ c.seats.index = omega (arith, c.seats-test.true) in
    let cons : drop place all ≡ seat.harvester ∷ drop c.seats.index all =
    drop-cons all place seat.harvester (omega (arith, within, many)) ∙ ap (λ (h : Harvester g.row.T.Denot). h ∷ drop (suc place) all) here ∙ ap (λ (n : ℕ). seat.harvester ∷ drop n all) next in
    record {
      within = omega (arith, c.seats.invariant.within);
      each = subst (λ (hs : List (Harvester g.row.T.Denot)). All IsThrough hs) (sym cons) (All-cons IsThrough seat.harvester (drop c.seats.index all) c.if-not-is_through.ensures.through c.seats.invariant.each);
    }
