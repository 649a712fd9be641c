-- As many tails are open as there are harvesters of a crew, whose slots stay, and as many wires come back as its workers had.
use Rattle.std.proofs.Common.{◌≡◌, ℕ, ◌+◌, List, [], ◌∷◌, length, sym, ap, refl, ◌∙◌, arith}
use Rattle.std.specs.List.{AllByRecursion}
use Rattle.std.proofs.lemmas.List.{length-append, length-map}
use Rattle.harvester.specs.HasTold.{begin_of}
use Rattle.lanes.specs.Laning.{Laning}
use Rattle.rounds.specs.Making.{IsBegunLane}
use Rattle.rounds.specs.Staying.{begins_in, begins_of}
use Rattle.rounds.specs.Words.{LinkWords, WireWords}
use Rattle.rounds.specs.declared.carrier.Carrier.{Carrier}
use Rattle.wire_base.specs.declared.note.Begin.{Begin}
use Rattle.run_steps.specs.CarriersEnd.{EndsCarrier, EndsCarriers}
use Rattle.run_steps.specs.Releasing.{harvesters_of}
use Rattle.rounds.proofs.Slices.{paired_many}

abbrev total : List (List Begin) → ℕ
total [] = 0
total (begins ∷ more) = length begins + total more

module _ {T : Type 0} where
  counted : (lanes : List (Laning T)) → length (harvesters_of lanes) ≡ total (begins_of lanes)
  counted [] = refl
  counted (lane ∷ lanes) =
      let both = length-append lane.harvesters (harvesters_of lanes) in
      let here : length (begins_in lane) ≡ length lane.harvesters = length-map lane.harvesters begin_of in
      let rest = counted lanes in
      omega (arith, both, here, rest)

  pub as_many_harvesters : (old new : List (Laning T)) → begins_of new ≡ begins_of old → length (harvesters_of new) ≡ length (harvesters_of old)
  as_many_harvesters old new same = counted new ∙ ap total same ∙ sym (counted old)

  pub none_begun : (lanes : List (Laning T)) → AllByRecursion IsBegunLane lanes → length (harvesters_of lanes) ≡ 0
  none_begun [] begun = refl
  none_begun (lane ∷ lanes) begun =
      let both = length-append lane.harvesters (harvesters_of lanes) in
      let here = ap (λ (l : Laning T). length l.harvesters) begun.0.is in
      let rest = none_begun lanes begun.1 in
      omega (arith, both, here, rest)

pub wires_back : {W L : Type 0} (links : LinkWords L) (wires : WireWords W) (carriers : List (Carrier W L)) (old new : List W) → EndsCarriers links wires carriers old new →
    length new ≡ length carriers + length old
wires_back links wires carriers old new ends =
    let all = ap (λ (l : List _). length l) ends.is in
    let both = length-append ends.ended old in
    let each = paired_many (EndsCarrier links wires) carriers ends.ended ends.each in
    omega (arith, all, both, each)
