-- Turns that were not refused, and behind which no last epoch is over, leave no fall of a file's length without an answer, lane by lane.
use Rattle.std.proofs.Common.{◌≡◌, ℕ, List, [], ◌∷◌, Contains, IsSome, subst}
use Rattle.std.specs.List.{AllByRecursion}
use Rattle.accounts.specs.Opened.{Opened}
use Rattle.accounts.specs.Turned.{Turned}
use Rattle.accounts.specs.Turning.{IsTurnedSo, Pairs}
use Rattle.accounts.specs.Watch.{Watch}
use Rattle.harvester.specs.declared.harvester.Harvester.{Harvester}
use Rattle.lanes.specs.Laning.{Laning}
use Rattle.lanes.specs.Step.{Step}
use Rattle.lanes.specs.declared.run.When.{When}
use Rattle.outside.specs.declared.history.Look.{Look}
use Rattle.rounds.specs.Crewed.{bare_lanes}
use Rattle.rounds.specs.Placed.{AreStepsOf}
use Rattle.rounds.specs.Words.{TailWords}
use Rattle.run_steps.specs.LastEpoch.{HasAnswered}
use Rattle.run_steps.specs.Stands.{AreTurnedIn, TellIn}
use Rattle.run_steps.proofs.Answered.{IsAnsweredSo, WentOn, answers_on}
use Rattle.run_steps.proofs.FaultTurns.{MetNoFault}
use Rattle.run_steps.proofs.Lanes.{same_but_passes}
use Rattle.run_steps.proofs.ReadBehind.{FoundMemory}
use Rattle.run_steps.proofs.ReadPlaces.{OnlyRead}
use Rattle.run_steps.proofs.Turning.{NotOut, lanes_keep}

pub all_went_on : (steps : List Step) → AllByRecursion FoundMemory steps → AllByRecursion MetNoFault steps → AllByRecursion NotOut steps → AllByRecursion WentOn steps
all_went_on [] found no_fault not_out = tt
all_went_on (step ∷ steps) found no_fault not_out =
    (record { memory = found.0; no_fault = no_fault.0; not_out = not_out.0 }, all_went_on steps found.1 no_fault.1 not_out.1)

-- of the files of a lane
abbrev pub EachAnswered : {T : Type 0} → Laning T → Type 0
EachAnswered lane = AllByRecursion HasAnswered lane.harvesters

module _ {T : Type 0} (tails : TailWords T) (watch : Watch) (opened : List Opened) (moments : List ℕ) (queue box : ℕ) (when : When)
    (only_asked : (one : Opened) → Contains opened one → (before : List Look) → before ≡ one.asked → OnlyRead before) where
  abbrev AnsweredSo : Harvester T → Type 0
  AnsweredSo = IsAnsweredSo tails.numbers tails.told tails.faults

  abbrev EachAnsweredSo : Laning T → Type 0
  EachAnsweredSo lane = AllByRecursion AnsweredSo lane.harvesters

  known_one : (ts : List Turned) (hs : List (Harvester T)) → Pairs (IsTurnedSo tails.numbers tails.told watch opened moments) ts hs →
      AllByRecursion (λ (h : Harvester T). IsSome (tails.told h.tail)) hs → AllByRecursion HasAnswered hs → AllByRecursion AnsweredSo hs
  known_one [] [] stand tell each = tt
  known_one [] (h ∷ hs) stand tell each = absurd stand
  known_one (t ∷ ts) [] stand tell each = absurd stand
  known_one (t ∷ ts) (h ∷ hs) stand tell each = (
    record {
      history = t.history;
      has_told = stand.0.has_told;
      only_asked = only_asked stand.0.opened stand.0.of_files t.history.before stand.0.is_told.history.asked_before;
      tells = tell.0;
      answered = each.0;
    },
    known_one ts hs stand.1 tell.1 each.1,
  )

  known : (files : List (List Turned)) (lanes : List (Laning T)) → Pairs (AreTurnedIn tails watch opened moments) files lanes → AllByRecursion (TellIn tails) lanes →
      AllByRecursion EachAnswered lanes → AllByRecursion EachAnsweredSo lanes
  known [] [] stand tell each = tt
  known [] (lane ∷ lanes) stand tell each = absurd stand
  known (ts ∷ files) [] stand tell each = absurd stand
  known (ts ∷ files) (lane ∷ lanes) stand tell each = (known_one ts lane.harvesters stand.0 tell.0 each.0, known files lanes stand.1 tell.1 each.1)

  each_one : (hs : List (Harvester T)) → AllByRecursion AnsweredSo hs → AllByRecursion HasAnswered hs
  each_one [] each = tt
  each_one (h ∷ hs) each = (each.0.answered, each_one hs each.1)

  each_lane : (lanes : List (Laning T)) → AllByRecursion EachAnsweredSo lanes → AllByRecursion EachAnswered lanes
  each_lane [] each = tt
  each_lane (lane ∷ lanes) each = (each_one lane.harvesters each.0, each_lane lanes each.1)

  -- by the lanes as they are, and by those to which the turns led
  pub answered_by_turns : (files : List (List Turned)) (olds lanes news : List (Laning T)) (steps : List Step) → Pairs (AreTurnedIn tails watch opened moments) files olds →
      AllByRecursion (TellIn tails) olds → AllByRecursion EachAnswered olds → bare_lanes news ≡ bare_lanes lanes → AreStepsOf tails queue box when steps olds lanes →
      AllByRecursion WentOn steps → AllByRecursion EachAnswered news
  answered_by_turns files olds lanes news steps stand tell each same are went_on =
      same_but_passes EachAnswered (λ lane other harvesters all. subst (λ (hs : List (Harvester T)). AllByRecursion HasAnswered hs) harvesters all) lanes news same
      (each_lane lanes (lanes_keep tails queue box when WentOn AnsweredSo (answers_on tails.numbers tails.told tails.faults) steps olds lanes went_on are (known files olds stand tell each)))
