-- Where no lane names a file of which a read failed in the round, no turn of it met a read fault.
use Rattle.std.proofs.Common.{◌≡◌, ◌≢◌, ℕ, ◌||◌, Bool, true, false, List, [], ◌∷◌, ◌++◌, Option, None, Some, refl, sym, ap, subst, ◌∙◌}
use Rattle.std.specs.List.{AllByRecursion}
use Rattle.std.specs.Option.{is_some}
use Rattle.harvester.specs.declared.turn.Turn.{Turn}
use Rattle.harvester.specs.declared.turn.Turn.TheVariants as turn
use Rattle.lanes.specs.Laning.{Laning, without_passes}
use Rattle.lanes.specs.Step.{Step, tallied}
use Rattle.lanes.specs.Tallies.{begun_tally, first_slot, tally_with}
use Rattle.lanes.specs.declared.run.When.{When}
use Rattle.lanes.specs.declared.tally.Tally.{Tally}
use Rattle.rounds.specs.Crewed.{bare_lanes}
use Rattle.rounds.specs.Placed.{AreStepsOf}
use Rattle.rounds.specs.Words.{TailWords}
use Rattle.wire_base.specs.declared.numbers.Slot.{Slot}
use Rattle.run_steps.specs.ClosesTail.{some_failed}

-- the turn met no read fault
abbrev pub MetNoFault : Step → Type 0
MetNoFault step = step.turn ≢ turn.ReadFault

-- ---- in a lane

first_there : (first : Option Slot) (slot : Slot) → first_slot first slot ≡ None → ⊥
first_there None slot is = let no : Some slot ≡ None = is in cc
first_there (Some first) slot is = let no : Some first ≡ None = is in cc

stays_none : (slot : Slot) (t : Turn) (tally : Tally) → (tally_with slot t tally).failed ≡ None → tally.failed ≡ None
stays_none slot (turn.Issued parcel) tally none = none
stays_none slot (turn.Passed span rule) tally none = none
stays_none slot turn.More tally none = none
stays_none slot turn.AtEnd tally none = none
stays_none slot (turn.NewLife epoch) tally none = none
stays_none slot turn.Changed tally none = none
stays_none slot turn.EpochsOut tally none = none
stays_none slot turn.NoMemory tally none = none
stays_none slot turn.ReadFault tally none = absurd (first_there tally.failed slot none)

no_fault : (slot : Slot) (t : Turn) (tally : Tally) → (tally_with slot t tally).failed ≡ None → t ≢ turn.ReadFault
no_fault slot t tally none fault = first_there tally.failed slot (subst (λ (x : Turn). (tally_with slot x tally).failed ≡ None) fault none)

none_before : (steps : List Step) (tally : Tally) → (tallied tally steps).failed ≡ None → tally.failed ≡ None
none_before [] tally none = none
none_before (step ∷ steps) tally none = stays_none step.slot step.turn tally (none_before steps (tally_with step.slot step.turn tally) none)

each_met_none : (steps : List Step) (tally : Tally) → (tallied tally steps).failed ≡ None → AllByRecursion MetNoFault steps
each_met_none [] tally none = tt
each_met_none (step ∷ steps) tally none = (
  no_fault step.slot step.turn tally (none_before steps (tally_with step.slot step.turn tally) none),
  each_met_none steps (tally_with step.slot step.turn tally) none,
)

-- ---- in all lanes

together : (first rest all : List Step) → all ≡ first ++ rest → AllByRecursion MetNoFault first → AllByRecursion MetNoFault rest → AllByRecursion MetNoFault all
together first rest all are one other = subst (λ (l : List Step). AllByRecursion MetNoFault l) (sym are) (both first one)
  where
    both : (l : List Step) → AllByRecursion MetNoFault l → AllByRecursion MetNoFault (l ++ rest)
    both [] each = other
    both (step ∷ l) each = (each.0, both l each.1)

none_there : (o : Option Slot) → is_some o ≡ false → o ≡ None
none_there None is = refl
none_there (Some slot) is = absurd (let no : true ≡ false = is in cc)

module _ {T : Type 0} where
  abbrev HasNone : Laning T → Type 0
  HasNone lane = lane.tally.failed ≡ None

  each_has_none : (lanes : List (Laning T)) → some_failed lanes ≡ false → AllByRecursion HasNone lanes
  each_has_none [] none = tt
  each_has_none (lane ∷ lanes) none = by_case (is_some lane.tally.failed) refl none (each_has_none lanes)
    where
      by_case : (b : Bool) → is_some lane.tally.failed ≡ b → (b || some_failed lanes) ≡ false → (some_failed lanes ≡ false → AllByRecursion HasNone lanes) → AllByRecursion HasNone (lane ∷ lanes)
      by_case true here is later = absurd (let no : true ≡ false = is in cc)
      by_case false here is later = (none_there lane.tally.failed here, later is)

  same_tallies : (lanes others : List (Laning T)) → bare_lanes lanes ≡ bare_lanes others → AllByRecursion HasNone lanes → AllByRecursion HasNone others
  same_tallies [] [] same none = tt
  same_tallies [] (other ∷ others) same none = absurd cc
  same_tallies (lane ∷ lanes) [] same none = absurd cc
  same_tallies (lane ∷ lanes) (other ∷ others) same none =
      let bare : without_passes lane ≡ without_passes other = cc in
      let here : lane.tally ≡ other.tally = ap (λ (l : Laning T). l.tally) bare in
      let later : bare_lanes lanes ≡ bare_lanes others = cc in
      (subst (λ (t : Tally). t.failed ≡ None) here none.0, same_tallies lanes others later none.1)

  module _ (tails : TailWords T) (queue box : ℕ) (when : When) where
    none_in_steps : (all : List Step) (olds news : List (Laning T)) → AreStepsOf tails queue box when all olds news → AllByRecursion HasNone news → AllByRecursion MetNoFault all
    none_in_steps all [] [] are none = subst (λ (l : List Step). AllByRecursion MetNoFault l) (sym are) tt
    none_in_steps all [] (new ∷ news) are none = absurd are
    none_in_steps all (old ∷ olds) [] are none = absurd are
    none_in_steps all (old ∷ olds) (new ∷ news) are none =
        let here = each_met_none are.0.keeps.steps (begun_tally are.0.moved) (ap (λ (t : Tally). t.failed) (sym are.0.tally) ∙ none.0) in
        together are.0.keeps.steps are.1 all are.2 here (none_in_steps are.1 olds news are.3 none.1)

    -- by the lanes as they are, and by those to which the turns led
    pub no_turn_failed : (all : List Step) (olds news lanes : List (Laning T)) → some_failed lanes ≡ false → bare_lanes lanes ≡ bare_lanes news →
        AreStepsOf tails queue box when all olds news → AllByRecursion MetNoFault all
    no_turn_failed all olds news lanes none same are = none_in_steps all olds news are (same_tallies lanes news same (each_has_none lanes none))
