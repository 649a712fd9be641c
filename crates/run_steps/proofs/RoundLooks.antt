-- A round that is refused nothing asks some file for its length, where its lanes held nothing and follow one.
use Rattle.std.proofs.Common.{◌≡◌, ◌⊎◌, inl, inr, ⊎_elim, ℕ, ◌<◌, Bool, false, List, [], ◌∷◌, ◌++◌, length, Option, Some, None, IfNone, refl, sym, ap, subst, ◌∙◌, arith}
use Rattle.std.specs.Prelude.{slice_get}
use Rattle.std.specs.List.{AllByRecursion}
use Rattle.harvester.specs.HasTold.{IsChanged}
use Rattle.harvester.specs.TurnLooks.{IsRefused}
use Rattle.harvester.specs.declared.harvester.Harvester.{Harvester}
use Rattle.harvester.specs.declared.turn.Turn.{Turn}
use Rattle.harvester.specs.declared.turn.Turn.TheVariants as turn
use Rattle.lanes.specs.Giving.{notes_in, parcels_in}
use Rattle.lanes.specs.Keeping.{LaneKeeps}
use Rattle.lanes.specs.Laning.{Laning}
use Rattle.lanes.specs.Running.{IsTurnedOrChanged, LaneRuns}
use Rattle.lanes.specs.Step.{Step, issued_in, noted_in, turns_of}
use Rattle.lanes.specs.Turned.{IsKnown}
use Rattle.lanes.specs.declared.given.Given.{Given}
use Rattle.lanes.specs.declared.given.Given.TheVariants as given
use Rattle.lanes.specs.declared.run.When.{When}
use Rattle.mem_queue.specs.BoundedQueue.{BoundedQueue}
use Rattle.mem_queue.specs.Entries.{parcels}
use Rattle.rounds.specs.Crewed.{lanings}
use Rattle.rounds.specs.Crewing.{Crewing, crew_of}
use Rattle.rounds.specs.Pairs.{SomeOf}
use Rattle.rounds.specs.Placed.{AreStepsOf}
use Rattle.rounds.specs.RoundKeeps.{RoundKeeps}
use Rattle.rounds.specs.Rounds.{IsReady, Rounds}
use Rattle.rounds.specs.Words.{TailWords, Words}
use Rattle.rounds.specs.declared.answer.Round.{Round}
use Rattle.settle_box.specs.BoundedBox.{BoundedBox}
use Rattle.run_steps.specs.ClosesTail.{some_failed}
use Rattle.run_steps.specs.Looking.{HoldNothing, IsFirstLook, LooksInRound}
use Rattle.run_steps.specs.MetBy.{SomeHarvester}
use Rattle.run_steps.specs.MetIn.{IsMetIn}
use Rattle.run_steps.specs.Releasing.{harvesters_of}
use Rattle.run_steps.specs.declared.met.Met.{Met}
use Rattle.run_steps.proofs.Causing.{run_shows, run_stays, round_stays, some_but_passes}
use Rattle.run_steps.proofs.FaultTurns.{MetNoFault, no_turn_failed}
use Rattle.run_steps.proofs.HoldingNothing.{holds_nothing, rest_none}
use Rattle.run_steps.proofs.Looked.{Looked, NotRefused, changed_looked, looks_show}
use Rattle.run_steps.proofs.MemoryTurns.{each_turn_found}
use Rattle.run_steps.proofs.MetBy.{known}
use Rattle.run_steps.proofs.ReadBehind.{FoundMemory}

-- ---- lists

first_none : {A : Type 0} (xs ys : List A) → xs ++ ys ≡ [] → xs ≡ []
first_none [] ys none = refl
first_none (x ∷ xs) ys none = absurd (let no : x ∷ (xs ++ ys) ≡ [] = none in cc)

parted : (first rest : List Step) → AllByRecursion NotRefused (first ++ rest) → AllByRecursion NotRefused first × AllByRecursion NotRefused rest
parted [] rest each = (tt, each)
parted (step ∷ first) rest each = let later = parted first rest each.1 in ((each.0, later.0), later.1)

-- ---- one lane

module _ {T : Type 0} (tails : TailWords T) (queue box : ℕ) (when : When) where
  -- where no turn was made, it holds nothing still
  still_nothing : (old new : Laning T) (keeps : LaneKeeps tails.numbers tails.told tails.faults old new) → keeps.steps ≡ [] → old.held ≡ given.Nothing → new.held ≡ given.Nothing
  still_nothing old new keeps none nothing = holds_nothing new.held
      (rest_none (parcels keeps.entries) (parcels_in new.held)
      (sym keeps.parcels_are ∙ ap (λ (g : Given). parcels_in g ++ issued_in keeps.steps) nothing ∙ ap issued_in none))
      (rest_none keeps.posted (notes_in new.held)
      (sym keeps.notes_are ∙ ap (λ (g : Given). notes_in g ++ noted_in keeps.steps) nothing ∙ ap noted_in none))

  -- and then its first harvester had changed
  idle_changed : (old new : Laning T) (runs : LaneRuns tails.numbers tails.told tails.faults queue box when old new) (first : Harvester T) (rest : List (Harvester T)) →
      runs.keeps.steps ≡ [] → old.held ≡ given.Nothing → old.harvesters ≡ first ∷ rest → IsChanged first
  idle_changed old new runs first rest none nothing are =
      ⊎_elim (λ all. by_turns (all 0 (subst (λ (l : List (Harvester T)). 0 < length l) (sym are) (omega arith))))
      (λ stuck. absurd (stuck.1 (still_nothing old new runs.keeps none nothing))) runs.reached
    where
      none_first : runs.first ≡ []
      none_first = first_none runs.first runs.more (sym runs.are ∙ none)

      by_turns : IsTurnedOrChanged 0 runs.first old.harvesters → IsChanged first
      by_turns (inl once) = absurd (let no : 0 ≡ 1 = subst (λ (l : List Step). turns_of 0 l ≡ 1) none_first once in omega (arith, no))
      by_turns (inr (not, changed)) =
          let there : Some first ≡ Some changed.one = subst (λ (l : List (Harvester T)). slice_get l 0 ≡ Some changed.one) are changed.is in
          let same : changed.one ≡ first = cc in
          subst (λ (h : Harvester T). IsChanged h) same changed.changed

  abbrev Known : Laning T → Type 0
  Known lane = AllByRecursion (IsKnown tails.numbers tails.told) lane.harvesters

  lane_looks : (old new : Laning T) (runs : LaneRuns tails.numbers tails.told tails.faults queue box when old new) → old.held ≡ given.Nothing → Known old →
      AllByRecursion NotRefused runs.keeps.steps → (old.harvesters ≡ []) ⊎ SomeOf (Looked tails.told) new.harvesters
  lane_looks old new runs nothing knows each = by_steps runs.keeps.steps refl
    where
      by_harvesters : runs.keeps.steps ≡ [] → (hs : List (Harvester T)) → old.harvesters ≡ hs → (old.harvesters ≡ []) ⊎ SomeOf (Looked tails.told) new.harvesters
      by_harvesters none [] are = inl are
      by_harvesters none (first ∷ rest) are =
          let of_first = subst (λ (l : List (Harvester T)). AllByRecursion (IsKnown tails.numbers tails.told) l) are knows in
          inr (run_stays tails.numbers tails.told tails.faults NotRefused (Looked tails.told) (looks_show tails.numbers tails.told tails.faults)
          runs.keeps.steps old.harvesters new.harvesters runs.keeps.ran (subst (λ (l : List (Harvester T)). SomeOf (Looked tails.told) l) (sym are)
          (inl (changed_looked tails.numbers tails.told first of_first.0 (idle_changed old new runs first rest none nothing are)))))

      by_steps : (steps : List Step) → runs.keeps.steps ≡ steps → (old.harvesters ≡ []) ⊎ SomeOf (Looked tails.told) new.harvesters
      by_steps [] are = by_harvesters are old.harvesters refl
      by_steps (step ∷ steps) are =
          let here = subst (λ (l : List Step). AllByRecursion NotRefused l) are each in
          inr (run_shows tails.numbers tails.told tails.faults NotRefused (Looked tails.told) (looks_show tails.numbers tails.told tails.faults)
          runs.keeps.steps old.harvesters new.harvesters runs.keeps.ran knows (subst (λ (l : List Step). SomeOf NotRefused l) (sym are) (inl here.0)))

  -- ---- all lanes

  lanes_look : (all : List Step) (olds news : List (Laning T)) → AreStepsOf tails queue box when all olds news → HoldNothing olds → AllByRecursion Known olds →
      AllByRecursion NotRefused all → (harvesters_of olds ≡ []) ⊎ SomeHarvester (Looked tails.told) news
  lanes_look all [] [] are nothing knows each = inl refl
  lanes_look all [] (new ∷ news) are nothing knows each = absurd are
  lanes_look all (old ∷ olds) [] are nothing knows each = absurd are
  lanes_look all (old ∷ olds) (new ∷ news) are nothing knows each =
      let parts = parted are.0.keeps.steps are.1 (subst (λ (l : List Step). AllByRecursion NotRefused l) are.2 each) in
      ⊎_elim
      (λ none. ⊎_elim (λ later. inl (ap (λ (hs : List (Harvester T)). hs ++ harvesters_of olds) none ∙ later)) (λ some. inr (inr some))
      (lanes_look are.1 olds news are.3 nothing.1 knows.1 parts.1))
      (λ some. inr (inl some))
      (lane_looks old new are.0 nothing.0 knows.0 parts.0)

-- ---- a round

refused_so : (t : Turn) → IsRefused t → (t ≡ turn.ReadFault) ⊎ (t ≡ turn.NoMemory)
refused_so (turn.Issued parcel) is = absurd is
refused_so (turn.Passed span rule) is = absurd is
refused_so turn.More is = absurd is
refused_so turn.AtEnd is = absurd is
refused_so (turn.NewLife epoch) is = absurd is
refused_so turn.Changed is = absurd is
refused_so turn.EpochsOut is = absurd is
refused_so turn.ReadFault is = inl refl
refused_so turn.NoMemory is = inr refl

none_refused : (steps : List Step) → AllByRecursion FoundMemory steps → AllByRecursion MetNoFault steps → AllByRecursion NotRefused steps
none_refused [] found met = tt
none_refused (step ∷ steps) found met = (λ refused. ⊎_elim met.0 found.0 (refused_so step.turn refused), none_refused steps found.1 met.1)

module _ {T W L D : Type 0} (words : Words T W L D) (queue : BoundedQueue) (desk : BoundedBox) (when : When) (old new : Crewing T W L D) (round : Round)
    (ready : IsReady words.tails queue.id desk.id old) (keeps : RoundKeeps words queue desk when old new round) (ran : Rounds words queue desk when old new round) (once : Bool) (attempts : ℕ) where
  round_looks : round.memory ≡ false → some_failed (lanings new.lanes.items) ≡ false → LooksInRound words.tails (lanings old.lanes.items) (lanings new.lanes.items)
  round_looks memory unnamed = record { first = first; stays = stays }
    where
      each : AllByRecursion NotRefused keeps.causes.had.steps
      each =
          let had = keeps.causes.had in
          none_refused had.steps
          (each_turn_found words.tails queue.capacity desk.capacity when round new.storing.stored had.steps (lanings old.lanes.items) had.lanes (lanings new.lanes.items) new.carriers.items
          ran.answer memory had.lanes_are had.steps_are)
          (no_turn_failed words.tails queue.capacity desk.capacity when had.steps (lanings old.lanes.items) had.lanes (lanings new.lanes.items) unnamed had.lanes_are had.steps_are)

      first : HoldNothing (lanings old.lanes.items) → IsFirstLook words.tails (lanings old.lanes.items) (lanings new.lanes.items)
      first nothing =
          let had = keeps.causes.had in
          ⊎_elim (λ none. inl none)
          (λ some. inr (some_but_passes words.tails queue.capacity desk.capacity when NotRefused (Looked words.tails.told) (looks_show words.tails.numbers words.tails.told words.tails.faults)
          had.lanes (lanings new.lanes.items) had.lanes_are some))
          (lanes_look words.tails queue.capacity desk.capacity when had.steps (lanings old.lanes.items) had.lanes had.steps_are nothing
          (known words queue desk when old new round ready keeps once attempts) each)

      stays : SomeHarvester (Looked words.tails.told) (lanings old.lanes.items) → SomeHarvester (Looked words.tails.told) (lanings new.lanes.items)
      stays some =
          let had = keeps.causes.had in
          round_stays words.tails queue.capacity desk.capacity when NotRefused (Looked words.tails.told) (looks_show words.tails.numbers words.tails.told words.tails.faults)
          had.steps (lanings old.lanes.items) had.lanes (lanings new.lanes.items) had.steps_are had.lanes_are some

  -- one that ends nothing found memory
  pub looks_met : (result : Option Met) → IsMetIn once attempts (crew_of new) new.storing.keeper.now round result →
      IfNone result (some_failed (lanings new.lanes.items) ≡ false → LooksInRound words.tails (lanings old.lanes.items) (lanings new.lanes.items))
  looks_met None is = round_looks is.0.reading.storing.memory
  looks_met (Some met) is = tt
