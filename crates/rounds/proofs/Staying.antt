-- What stays of a crew.
use Rattle.std.proofs.Common.{◌≡◌, ◌⊎◌, ⊎_elim, ℕ, zero, suc, List, [], ◌∷◌, ◌++◌, Some, slice_get, length, map, inl, inr, refl, sym, ap, subst, ◌∙◌}
use Rattle.std.proofs.Math.Seq.{map-set_same}
use Rattle.std.proofs.lemmas.List.{length-map}
use Rattle.std.proofs.lemmas.Option.{get_or_from_slice_get, none-some}
use Rattle.harvester.specs.HasTold.{begin_of}
use Rattle.harvester.specs.declared.harvester.Harvester.{Harvester}
use Rattle.lanes.specs.Laning.{Laning, laning}
use Rattle.lanes.specs.Step.{Step}
use Rattle.lanes.specs.Steps.{IsMade, Run}
use Rattle.lanes.specs.declared.run.When.{When}
use Rattle.wire_base.specs.declared.note.Begin.{Begin}
use Rattle.wire_base.specs.declared.numbers.Slot.{Slot}
use Rattle.rounds.specs.Causes.{WasOver}
use Rattle.rounds.specs.Crewed.{bare_carriers, bare_lanes, lanings}
use Rattle.rounds.specs.Crewing.{Crewing}
use Rattle.rounds.specs.Pairs.{Pairs, SomeOf}
use Rattle.rounds.specs.Placed.{AreStepsOf}
use Rattle.rounds.specs.Running.{LaneHasRun}
use Rattle.rounds.specs.Settling.{KeepsFiles}
use Rattle.rounds.specs.Staying.{AreAsMany, HaveSlot, begins_in, begins_of}
use Rattle.rounds.specs.Words.{TailWords}
use Rattle.rounds.proofs.Slices.{as_many}

-- ---- as many as before

pub crew_as_many : {T W L D : Type 0} (old mid new : Crewing T W L D) → length (lanings mid.lanes.items) ≡ length (lanings old.lanes.items) → length mid.carriers.items ≡ length old.carriers.items
    → bare_lanes (lanings new.lanes.items) ≡ bare_lanes (lanings mid.lanes.items) → bare_carriers new.carriers.items ≡ bare_carriers mid.carriers.items → AreAsMany old new
crew_as_many old mid new many_lanes many_carriers lanes_same carriers_same = record {
  lanes = sym (length-map new.lanes.items laning) ∙ as_many _ (lanings new.lanes.items) (lanings mid.lanes.items) lanes_same ∙ many_lanes ∙ length-map old.lanes.items laning;
  carriers = as_many _ new.carriers.items mid.carriers.items carriers_same ∙ many_carriers;
}

-- ---- the same begins

-- as the passes met
begins_bare : {T : Type 0} (lanes : List (Laning T)) → begins_of (bare_lanes lanes) ≡ begins_of lanes
begins_bare [] = refl
begins_bare (lane ∷ lanes) = ap (λ (l : List (List Begin)). begins_in lane ∷ l) (begins_bare lanes)

pub begins_met : {T : Type 0} (mids news : List (Laning T)) → bare_lanes news ≡ bare_lanes mids → begins_of news ≡ begins_of mids
begins_met {T} mids news same = sym (begins_bare news) ∙ ap (λ (l : List (Laning T)). begins_of l) same ∙ begins_bare mids

pub begins_settled : {T : Type 0} (olds news : List (Laning T)) → Pairs KeepsFiles olds news → begins_of news ≡ begins_of olds
begins_settled [] [] keep = refl
begins_settled [] (new ∷ news) keep = absurd keep
begins_settled (old ∷ olds) [] keep = absurd keep
begins_settled {T} (old ∷ olds) (new ∷ news) keep =
    ap (λ (hs : List (Harvester T)). map begin_of hs ∷ begins_of news) keep.0.harvesters ∙ ap (λ (l : List (List Begin)). begins_in old ∷ l) (begins_settled olds news keep.1)

module _ {T : Type 0} (tails : TailWords T) where
  begins_made : (step : Step) (olds news : List (Harvester T)) → IsMade tails.numbers tails.told tails.faults step olds news → map begin_of news ≡ map begin_of olds
  begins_made step olds news made =
      ap (map begin_of) made.is
      ∙ map-set_same begin_of olds step.index made.after made.before
      (made.turned.begin_kept ∙ ap begin_of (sym (get_or_from_slice_get olds step.index made.before made.before made.was)))

  begins_run : (steps : List Step) (olds news : List (Harvester T)) → Run tails.numbers tails.told tails.faults steps olds news → map begin_of news ≡ map begin_of olds
  begins_run [] olds news is = ap (map begin_of) is
  begins_run (step ∷ steps) olds news run = begins_run steps run.0 news run.2 ∙ begins_made step olds run.0 run.1

  lane_begins : (queue box : ℕ) (when : When) (old new : Laning T) → LaneHasRun tails queue box when old new → begins_in new ≡ begins_in old
  unfolding LaneHasRun
  lane_begins queue box when old new runs = begins_run runs.keeps.steps old.harvesters new.harvesters runs.keeps.ran

  pub begins_ran : (queue box : ℕ) (when : When) (olds news : List (Laning T)) → Pairs (LaneHasRun tails queue box when) olds news → begins_of news ≡ begins_of olds
  begins_ran queue box when [] [] ran = refl
  begins_ran queue box when [] (new ∷ news) ran = absurd ran
  begins_ran queue box when (old ∷ olds) [] ran = absurd ran
  begins_ran queue box when (old ∷ olds) (new ∷ news) ran =
      ap (λ (b : List Begin). b ∷ begins_of news) (lane_begins queue box when old new ran.0) ∙ ap (λ (l : List (List Begin)). begins_in old ∷ l) (begins_ran queue box when olds news ran.1)

  -- ---- turns are of slots that harvesters had

  some_at : (slot : Slot) (harvesters : List (Harvester T)) (index : ℕ) (one : Harvester T) → slice_get harvesters index ≡ Some one → (begin_of one).slot ≡ slot → SomeOf (λ (begin : Begin). begin.slot ≡ slot) (map begin_of harvesters)
  some_at slot [] index one is of_slot = absurd (none-some one is)
  some_at slot (first ∷ others) zero one is of_slot = let same : first ≡ one = cc in inl (ap (λ (h : Harvester T). (begin_of h).slot) same ∙ of_slot)
  some_at slot (first ∷ others) (suc index) one is of_slot = inr (some_at slot others index one is of_slot)

  slot_in_run : (slot : Slot) (steps : List Step) (olds news : List (Harvester T)) → Run tails.numbers tails.told tails.faults steps olds news → SomeOf (WasOver slot) steps
      → SomeOf (λ (begin : Begin). begin.slot ≡ slot) (map begin_of olds)
  slot_in_run slot [] olds news is some = absurd some
  slot_in_run slot (step ∷ steps) olds news run (inl over) = some_at slot olds step.index run.1.before run.1.was (sym run.1.of_slot ∙ over.of_slot)
  slot_in_run slot (step ∷ steps) olds news run (inr later) =
      subst (SomeOf (λ (begin : Begin). begin.slot ≡ slot)) (begins_made step olds run.0 run.1) (slot_in_run slot steps run.0 news run.2 later)

  some_of_two : {A : Type 0} (P : A → Type 0) (firsts others : List A) → SomeOf P (firsts ++ others) → SomeOf P firsts ⊎ SomeOf P others
  some_of_two P [] others some = inr some
  some_of_two P (first ∷ firsts) others (inl one) = inl (inl one)
  some_of_two P (first ∷ firsts) others (inr later) = ⊎_elim (λ here. inl (inr here)) (λ there. inr there) (some_of_two P firsts others later)

  pub slot_in_lanes : (queue box : ℕ) (when : When) (slot : Slot) (steps : List Step) (olds news : List (Laning T)) → AreStepsOf tails queue box when steps olds news → SomeOf (WasOver slot) steps → HaveSlot slot olds
  slot_in_lanes queue box when slot steps [] [] are some = subst (SomeOf (WasOver slot)) are some
  slot_in_lanes queue box when slot steps [] (new ∷ news) are some = absurd are
  slot_in_lanes queue box when slot steps (old ∷ olds) [] are some = absurd are
  slot_in_lanes queue box when slot steps (old ∷ olds) (new ∷ news) are some =
      let runs = are.0 in
      ⊎_elim
      (λ here. inl (slot_in_run slot runs.keeps.steps old.harvesters new.harvesters runs.keeps.ran here))
      (λ later. inr (slot_in_lanes queue box when slot are.1 olds news are.3 later))
      (some_of_two (WasOver slot) runs.keeps.steps are.1 (subst (SomeOf (WasOver slot)) are.2 some))
