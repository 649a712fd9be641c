-- Where a round answers that it found memory, each turn of it did.
use Rattle.std.proofs.Common.{◌≡◌, ◌≢◌, ℕ, ◌||◌, Bool, true, false, List, [], ◌∷◌, ◌++◌, refl, sym, ap, subst, ◌∙◌}
use Rattle.std.specs.List.{AllByRecursion}
use Rattle.harvester.specs.declared.turn.Turn.{Turn}
use Rattle.harvester.specs.declared.turn.Turn.TheVariants as turn
use Rattle.lanes.specs.Laning.{Laning, without_passes}
use Rattle.lanes.specs.Step.{Step, tallied}
use Rattle.lanes.specs.Tallies.{begun_tally, tally_with}
use Rattle.lanes.specs.declared.run.When.{When}
use Rattle.lanes.specs.declared.tally.Tally.{Tally}
use Rattle.wire_base.specs.declared.numbers.Slot.{Slot}
use Rattle.rounds.specs.Answer.{of_stored, round_of, with_carried, with_carriers, with_lanes, with_tally}
use Rattle.rounds.specs.Crewed.{bare_lanes}
use Rattle.rounds.specs.Placed.{AreStepsOf}
use Rattle.rounds.specs.Words.{TailWords}
use Rattle.rounds.specs.declared.answer.Round.{Round}
use Rattle.rounds.specs.declared.carrier.Carrier.{Carrier}
use Rattle.rounds.specs.declared.storing.Stored.{Stored}
use Rattle.run_steps.proofs.ReadBehind.{FoundMemory}

-- ---- in a lane

stays_found : (slot : Slot) (t : Turn) (tally : Tally) → (tally_with slot t tally).memory ≡ false → tally.memory ≡ false
stays_found slot (turn.Issued parcel) tally found = found
stays_found slot (turn.Passed span rule) tally found = found
stays_found slot turn.More tally found = found
stays_found slot turn.AtEnd tally found = found
stays_found slot (turn.NewLife epoch) tally found = found
stays_found slot turn.Changed tally found = found
stays_found slot turn.EpochsOut tally found = found
stays_found slot turn.ReadFault tally found = found
stays_found slot turn.NoMemory tally found = absurd (let no : true ≡ false = found in cc)

found_it : (slot : Slot) (t : Turn) (tally : Tally) → (tally_with slot t tally).memory ≡ false → t ≢ turn.NoMemory
found_it slot t tally found none =
    absurd (let no : true ≡ false = subst (λ (x : Turn). (tally_with slot x tally).memory ≡ false) none found in cc)

found_before : (steps : List Step) (tally : Tally) → (tallied tally steps).memory ≡ false → tally.memory ≡ false
found_before [] tally found = found
found_before (step ∷ steps) tally found = stays_found step.slot step.turn tally (found_before steps (tally_with step.slot step.turn tally) found)

each_found : (steps : List Step) (tally : Tally) → (tallied tally steps).memory ≡ false → AllByRecursion FoundMemory steps
each_found [] tally found = tt
each_found (step ∷ steps) tally found = (
  found_it step.slot step.turn tally (found_before steps (tally_with step.slot step.turn tally) found),
  each_found steps (tally_with step.slot step.turn tally) found,
)

-- ---- in all lanes

neither : (first other : Bool) → (first || other) ≡ false → (first ≡ false) × (other ≡ false)
neither false other is = (refl, is)
neither true other is = absurd (let no : true ≡ false = is in cc)

together : (first rest all : List Step) → all ≡ first ++ rest → AllByRecursion FoundMemory first → AllByRecursion FoundMemory rest → AllByRecursion FoundMemory all
together first rest all are one other = subst (λ (l : List Step). AllByRecursion FoundMemory l) (sym are) (both first one)
  where
    both : (l : List Step) → AllByRecursion FoundMemory l → AllByRecursion FoundMemory (l ++ rest)
    both [] each = other
    both (step ∷ l) each = (each.0, both l each.1)

module _ {T : Type 0} where
  abbrev HasFound : Laning T → Type 0
  HasFound lane = lane.tally.memory ≡ false

  each_has_found : (lanes : List (Laning T)) (round : Round) → (with_lanes lanes round).memory ≡ false → (round.memory ≡ false) × AllByRecursion HasFound lanes
  each_has_found [] round found = (found, tt)
  each_has_found (lane ∷ lanes) round found =
      let later = each_has_found lanes (with_tally lane.tally round) found in
      let here = neither round.memory lane.tally.memory later.0 in (here.0, (here.1, later.1))

  same_tallies : (lanes others : List (Laning T)) → bare_lanes lanes ≡ bare_lanes others → AllByRecursion HasFound lanes → AllByRecursion HasFound others
  same_tallies [] [] same found = tt
  same_tallies [] (other ∷ others) same found = absurd cc
  same_tallies (lane ∷ lanes) [] same found = absurd cc
  same_tallies (lane ∷ lanes) (other ∷ others) same found =
      let bare : without_passes lane ≡ without_passes other = cc in
      let here : lane.tally ≡ other.tally = ap (λ (l : Laning T). l.tally) bare in
      let later : bare_lanes lanes ≡ bare_lanes others = cc in
      (subst (λ (t : Tally). t.memory ≡ false) here found.0, same_tallies lanes others later found.1)

  module _ (tails : TailWords T) (queue box : ℕ) (when : When) where
    found_in_steps : (all : List Step) (olds news : List (Laning T)) → AreStepsOf tails queue box when all olds news → AllByRecursion HasFound news → AllByRecursion FoundMemory all
    found_in_steps all [] [] are found = subst (λ (l : List Step). AllByRecursion FoundMemory l) (sym are) tt
    found_in_steps all [] (new ∷ news) are found = absurd are
    found_in_steps all (old ∷ olds) [] are found = absurd are
    found_in_steps all (old ∷ olds) (new ∷ news) are found =
        let here = each_found are.0.keeps.steps (begun_tally are.0.moved) (ap (λ (t : Tally). t.memory) (sym are.0.tally) ∙ found.0) in
        together are.0.keeps.steps are.1 all are.2 here (found_in_steps are.1 olds news are.3 found.1)

    module _ {W L : Type 0} where
      by_lanes : (carriers : List (Carrier W L)) (round : Round) → (with_carriers carriers round).memory ≡ round.memory
      by_lanes [] round = refl
      by_lanes (carrier ∷ carriers) round = by_lanes carriers (with_carried carrier.carried round)

      -- by the lanes as they are, and by those to which the turns led
      pub each_turn_found : (round : Round) (stored : Stored) (all : List Step) (olds news : List (Laning T)) (lanes : List (Laning T)) (carriers : List (Carrier W L)) →
          round ≡ round_of lanes carriers stored → round.memory ≡ false → bare_lanes lanes ≡ bare_lanes news → AreStepsOf tails queue box when all olds news →
          AllByRecursion FoundMemory all
      each_turn_found round stored all olds news lanes carriers is found same are =
          let of_lanes : (with_lanes lanes (of_stored stored)).memory ≡ false =
          sym (by_lanes carriers (with_lanes lanes (of_stored stored))) ∙ ap (λ (r : Round). r.memory) (sym is) ∙ found in
          found_in_steps all olds news are (same_tallies lanes news same (each_has_found lanes (of_stored stored) of_lanes).1)
