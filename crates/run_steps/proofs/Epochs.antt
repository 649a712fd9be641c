-- Where a round answers that no file is out of epochs, no turn of it answered so.
use Rattle.std.proofs.Common.{◌≡◌, ◌≢◌, ℕ, List, [], ◌∷◌, ◌++◌, Option, Some, None, refl, sym, ap, subst, ◌∙◌}
use Rattle.std.specs.List.{AllByRecursion}
use Rattle.harvester.specs.declared.turn.Turn.{Turn}
use Rattle.harvester.specs.declared.turn.Turn.TheVariants as turn
use Rattle.lanes.specs.Laning.{Laning, without_passes}
use Rattle.lanes.specs.Step.{Step, tallied}
use Rattle.lanes.specs.Tallies.{begun_tally, first_slot, tally_with}
use Rattle.lanes.specs.declared.run.When.{When}
use Rattle.lanes.specs.declared.tally.Tally.{Tally}
use Rattle.run_steps.proofs.Turning.{NotOut}
use Rattle.wire_base.specs.declared.numbers.Slot.{Slot}
use Rattle.rounds.specs.Answer.{first_of, of_stored, round_of, with_carried, with_carriers, with_lanes, with_tally}
use Rattle.rounds.specs.Crewed.{bare_lanes}
use Rattle.rounds.specs.Placed.{AreStepsOf}
use Rattle.rounds.specs.Words.{TailWords}
use Rattle.rounds.specs.declared.answer.Round.{Round}
use Rattle.rounds.specs.declared.carrier.Carrier.{Carrier}
use Rattle.rounds.specs.declared.storing.Stored.{Stored}

-- ---- in a lane

stays_none : (slot : Slot) (t : Turn) (tally : Tally) → (tally_with slot t tally).epochs ≡ None → tally.epochs ≡ None
stays_none slot (turn.Issued parcel) tally none = none
stays_none slot (turn.Passed span rule) tally none = none
stays_none slot turn.More tally none = none
stays_none slot turn.AtEnd tally none = none
stays_none slot (turn.NewLife epoch) tally none = none
stays_none slot turn.Changed tally none = none
stays_none slot turn.ReadFault tally none = none
stays_none slot turn.NoMemory tally none = none
stays_none slot turn.EpochsOut tally none = by_case tally.epochs none
  where
    by_case : (o : Option Slot) → first_slot o slot ≡ None → o ≡ None
    by_case None is = refl
    by_case (Some first) is = absurd (let no : Some first ≡ None = is in cc)

not_out : (slot : Slot) (t : Turn) (tally : Tally) → (tally_with slot t tally).epochs ≡ None → t ≢ turn.EpochsOut
not_out slot t tally none out = by_case tally.epochs (subst (λ (x : Turn). (tally_with slot x tally).epochs ≡ None) out none)
  where
    by_case : (o : Option Slot) → first_slot o slot ≡ None → ⊥
    by_case None is = let no : Some slot ≡ None = is in cc
    by_case (Some first) is = let no : Some first ≡ None = is in cc

none_before : (steps : List Step) (tally : Tally) → (tallied tally steps).epochs ≡ None → tally.epochs ≡ None
none_before [] tally none = none
none_before (step ∷ steps) tally none = stays_none step.slot step.turn tally (none_before steps (tally_with step.slot step.turn tally) none)

none_out : (steps : List Step) (tally : Tally) → (tallied tally steps).epochs ≡ None → AllByRecursion NotOut steps
none_out [] tally none = tt
none_out (step ∷ steps) tally none = (
  not_out step.slot step.turn tally (none_before steps (tally_with step.slot step.turn tally) none),
  none_out steps (tally_with step.slot step.turn tally) none,
)

-- ---- in all lanes

neither : (first other : Option Slot) → first_of first other ≡ None → (first ≡ None) × (other ≡ None)
neither None other is = (refl, is)
neither (Some first) other is = absurd (let no : Some first ≡ None = is in cc)

together : (first rest all : List Step) → all ≡ first ++ rest → AllByRecursion NotOut first → AllByRecursion NotOut rest → AllByRecursion NotOut all
together first rest all are one other = subst (λ (l : List Step). AllByRecursion NotOut l) (sym are) (both first one)
  where
    both : (l : List Step) → AllByRecursion NotOut l → AllByRecursion NotOut (l ++ rest)
    both [] each = other
    both (step ∷ l) each = (each.0, both l each.1)

module _ {T : Type 0} where
  abbrev HasNone : Laning T → Type 0
  HasNone lane = lane.tally.epochs ≡ None

  pub each_has_none : (lanes : List (Laning T)) (round : Round) → (with_lanes lanes round).epochs ≡ None → (round.epochs ≡ None) × AllByRecursion HasNone lanes
  each_has_none [] round none = (none, tt)
  each_has_none (lane ∷ lanes) round none =
      let later = each_has_none lanes (with_tally lane.tally round) none in
      let here = neither round.epochs lane.tally.epochs later.0 in (here.0, (here.1, later.1))

  same_tallies : (lanes others : List (Laning T)) → bare_lanes lanes ≡ bare_lanes others → AllByRecursion HasNone lanes → AllByRecursion HasNone others
  same_tallies [] [] same none = tt
  same_tallies [] (other ∷ others) same none = absurd cc
  same_tallies (lane ∷ lanes) [] same none = absurd cc
  same_tallies (lane ∷ lanes) (other ∷ others) same none =
      let bare : without_passes lane ≡ without_passes other = cc in
      let here : lane.tally ≡ other.tally = ap (λ (l : Laning T). l.tally) bare in
      let later : bare_lanes lanes ≡ bare_lanes others = cc in
      (subst (λ (t : Tally). t.epochs ≡ None) here none.0, same_tallies lanes others later none.1)

  module _ (tails : TailWords T) (queue box : ℕ) (when : When) where
    none_in_steps : (all : List Step) (olds news : List (Laning T)) → AreStepsOf tails queue box when all olds news → AllByRecursion HasNone news → AllByRecursion NotOut all
    none_in_steps all [] [] are none = subst (λ (l : List Step). AllByRecursion NotOut l) (sym are) tt
    none_in_steps all [] (new ∷ news) are none = absurd are
    none_in_steps all (old ∷ olds) [] are none = absurd are
    none_in_steps all (old ∷ olds) (new ∷ news) are none =
        let here = none_out are.0.keeps.steps (begun_tally are.0.moved) (ap (λ (t : Tally). t.epochs) (sym are.0.tally) ∙ none.0) in
        together are.0.keeps.steps are.1 all are.2 here (none_in_steps are.1 olds news are.3 none.1)

    module _ {W L : Type 0} where
      by_lanes : (carriers : List (Carrier W L)) (round : Round) → (with_carriers carriers round).epochs ≡ round.epochs
      by_lanes [] round = refl
      by_lanes (carrier ∷ carriers) round = by_lanes carriers (with_carried carrier.carried round)

      -- by the lanes as they are, and by those to which the turns led
      pub no_turn_out : (round : Round) (stored : Stored) (all : List Step) (olds news : List (Laning T)) (lanes : List (Laning T)) (carriers : List (Carrier W L)) →
          round ≡ round_of lanes carriers stored → round.epochs ≡ None → bare_lanes lanes ≡ bare_lanes news → AreStepsOf tails queue box when all olds news →
          AllByRecursion NotOut all
      no_turn_out round stored all olds news lanes carriers is none same are =
          let of_lanes : (with_lanes lanes (of_stored stored)).epochs ≡ None =
          sym (by_lanes carriers (with_lanes lanes (of_stored stored))) ∙ ap (λ (r : Round). r.epochs) (sym is) ∙ none in
          none_in_steps all olds news are (same_tallies lanes news same (each_has_none lanes (of_stored stored) of_lanes).1)
