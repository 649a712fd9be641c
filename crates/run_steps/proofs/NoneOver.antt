-- Turns after which no last epoch is over leave none over, lane by lane.
use Rattle.std.proofs.Common.{◌≡◌, ◌≢◌, ℕ, List, [], ◌∷◌, subst}
use Rattle.std.specs.List.{AllByRecursion}
use Rattle.accounts.specs.Opened.{Opened}
use Rattle.accounts.specs.Turned.{Turned}
use Rattle.accounts.specs.Turning.{IsTurnedSo, Pairs}
use Rattle.accounts.specs.Watch.{Watch}
use Rattle.harvester.specs.declared.harvester.Harvester.{Harvester}
use Rattle.harvester.specs.declared.stage.Stage.TheVariants as stage
use Rattle.lanes.specs.Laning.{Laning}
use Rattle.lanes.specs.Step.{Step}
use Rattle.lanes.specs.declared.run.When.{When}
use Rattle.rounds.specs.Crewed.{bare_lanes}
use Rattle.rounds.specs.Placed.{AreStepsOf}
use Rattle.rounds.specs.Words.{TailWords}
use Rattle.run_steps.specs.Stands.{AreTurnedIn, NoneOver}
use Rattle.run_steps.proofs.Lanes.{same_but_passes}
use Rattle.run_steps.proofs.Turning.{IsNotOver, NotOut, lanes_keep, not_over_on}

module _ {T : Type 0} (tails : TailWords T) (watch : Watch) (opened : List Opened) (moments : List ℕ) (queue box : ℕ) (when : When) where
  abbrev NotOver : Harvester T → Type 0
  NotOver = IsNotOver tails.numbers tails.told tails.faults

  abbrev NoneInLane : Laning T → Type 0
  NoneInLane lane = AllByRecursion (λ (h : Harvester T). h.reader.stage ≢ stage.Over) lane.harvesters

  each_one : (hs : List (Harvester T)) → AllByRecursion NotOver hs → AllByRecursion (λ (h : Harvester T). h.reader.stage ≢ stage.Over) hs
  each_one [] each = tt
  each_one (h ∷ hs) each = (each.0.not_over, each_one hs each.1)

  each_lane : (lanes : List (Laning T)) → AllByRecursion (λ (lane : Laning T). AllByRecursion NotOver lane.harvesters) lanes → AllByRecursion NoneInLane lanes
  each_lane [] each = tt
  each_lane (lane ∷ lanes) each = (each_one lane.harvesters each.0, each_lane lanes each.1)

  known_one : (ts : List Turned) (hs : List (Harvester T)) → Pairs (IsTurnedSo tails.numbers tails.told watch opened moments) ts hs →
      AllByRecursion (λ (h : Harvester T). h.reader.stage ≢ stage.Over) hs → AllByRecursion NotOver hs
  known_one [] [] stand over = tt
  known_one [] (h ∷ hs) stand over = absurd stand
  known_one (t ∷ ts) [] stand over = absurd stand
  known_one (t ∷ ts) (h ∷ hs) stand over = (record { known = (t.history, stand.0.has_told); not_over = over.0 }, known_one ts hs stand.1 over.1)

  known : (files : List (List Turned)) (lanes : List (Laning T)) → Pairs (AreTurnedIn tails watch opened moments) files lanes →
      AllByRecursion NoneInLane lanes → AllByRecursion (λ (lane : Laning T). AllByRecursion NotOver lane.harvesters) lanes
  known [] [] stand over = tt
  known [] (lane ∷ lanes) stand over = absurd stand
  known (ts ∷ files) [] stand over = absurd stand
  known (ts ∷ files) (lane ∷ lanes) stand over = (known_one ts lane.harvesters stand.0 over.0, known files lanes stand.1 over.1)

  -- by the lanes as they are, and by those to which the turns led
  pub none_over_by_turns : (files : List (List Turned)) (olds lanes news : List (Laning T)) (steps : List Step) → Pairs (AreTurnedIn tails watch opened moments) files olds → NoneOver olds →
      bare_lanes news ≡ bare_lanes lanes → AreStepsOf tails queue box when steps olds lanes → AllByRecursion NotOut steps → NoneOver news
  none_over_by_turns files olds lanes news steps stand over same are not_out =
      same_but_passes NoneInLane (λ lane other harvesters each. subst (λ (hs : List (Harvester T)). AllByRecursion (λ (h : Harvester T). h.reader.stage ≢ stage.Over) hs) harvesters each) lanes news same
      (each_lane lanes (lanes_keep tails queue box when NotOut NotOver (not_over_on tails.numbers tails.told tails.faults) steps olds lanes not_out are (known files olds stand over)))
