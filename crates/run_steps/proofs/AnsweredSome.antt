-- Turns that found memory, and after which no last epoch is over, answer each fall of a length, lane by lane, of each file whose tail counted
-- no fault.
use Rattle.std.proofs.Common.{◌≡◌, ◌≢◌, ℕ, ◌||◌, List, [], ◌∷◌, Contains, IsSome, Option, sym, subst, arith}
use Rattle.std.specs.List.{AllByRecursion}
use Rattle.accounts.specs.Opened.{Opened}
use Rattle.accounts.specs.Turned.{Turned}
use Rattle.accounts.specs.Turning.{IsTurnedSo, Pairs}
use Rattle.accounts.specs.Watch.{Watch}
use Rattle.harvester.specs.HasTold.{HasTold}
use Rattle.harvester.specs.History.{History}
use Rattle.harvester.specs.Turned.{with_turn}
use Rattle.harvester.specs.Turns.{Goes, after_did}
use Rattle.harvester.specs.declared.harvester.Harvester.{Harvester}
use Rattle.harvester.specs.declared.turn.Turn.TheVariants as turn
use Rattle.lanes.specs.Laning.{Laning}
use Rattle.lanes.specs.Step.{Step}
use Rattle.lanes.specs.declared.run.When.{When}
use Rattle.outside.specs.Tails.{TailHistory}
use Rattle.outside.specs.declared.history.Look.{Look}
use Rattle.rounds.specs.Crewed.{bare_lanes}
use Rattle.rounds.specs.Placed.{AreStepsOf}
use Rattle.rounds.specs.Words.{TailWords}
use Rattle.run_steps.specs.LastEpoch.{HasAnsweredWhereNoFault}
use Rattle.run_steps.specs.Stands.{AreTurnedIn, TellIn}
use Rattle.run_steps.proofs.Answered.{IsAnsweredSo, answers_on}
use Rattle.run_steps.proofs.Lanes.{same_but_passes}
use Rattle.run_steps.proofs.ReadBehind.{FoundMemory, before_stays, not_risen}
use Rattle.run_steps.proofs.ReadPlaces.{OnlyRead}
use Rattle.run_steps.proofs.Turning.{EachTurnKeeps, NotOut, lanes_keep, tell_on}

-- the turn found memory, and no last epoch is over by it
pub record TriedOn (step : Step) : Type 0 where
  pub memory : FoundMemory step
  pub not_out : NotOut step

pub all_tried_on : (steps : List Step) → AllByRecursion FoundMemory steps → AllByRecursion NotOut steps → AllByRecursion TriedOn steps
all_tried_on [] found not_out = tt
all_tried_on (step ∷ steps) found not_out = (record { memory = found.0; not_out = not_out.0 }, all_tried_on steps found.1 not_out.1)

module _ {T : Type 0} (numbers : T → Option (ℕ × ℕ)) (told : T → Option TailHistory) (faults : T → ℕ) where
  -- what it told is known, its tail tells, it was asked for its key by reads alone, and each fall of its length was answered if it met no fault
  pub record IsAnsweredOrFailed (harvester : Harvester T) : Type 0 where
    pub history : History
    pub has_told : HasTold numbers told history harvester
    pub only_asked : OnlyRead history.before
    pub tells : IsSome (told harvester.tail)
    pub answered : HasAnsweredWhereNoFault faults harvester

  pub tries_on : EachTurnKeeps numbers told faults TriedOn IsAnsweredOrFailed
  tries_on step before after tried goes_on turned was = record {
    history = after_did step.now.0 step.turn g.did h;
    has_told = g.has_told;
    only_asked = subst OnlyRead (sym (before_stays step.now.0 step.turn g.did h)) was.only_asked;
    tells = tell_on numbers told faults step before after tt goes_on turned was.tells;
    answered = answered;
  }
    where
      h : History
      h = with_turn step.now.0 step.last was.history

      g : Goes numbers told 16_384 step.now.0 (step.last || was.history.ends) h before step.turn after
      g = turned.goes was.history was.has_told

      answered : HasAnsweredWhereNoFault faults after
      answered none = so.answered
        where
          none_before : faults before.tail ≡ 0
          none_before = let never_fall = turned.faults_never_fall in omega (arith, none, never_fall)

          no_fault : step.turn ≢ turn.ReadFault
          no_fault is = not_risen (faults before.tail) (faults after.tail) none (turned.read_fault_only_where_faults_rose was.history was.has_told is)

          was_so : IsAnsweredSo numbers told faults before
          was_so = record { history = was.history; has_told = was.has_told; only_asked = was.only_asked; tells = was.tells; answered = was.answered none_before }

          so : IsAnsweredSo numbers told faults after
          so = answers_on numbers told faults step before after (record { memory = tried.memory; no_fault = no_fault; not_out = tried.not_out }) goes_on turned was_so

-- of the files of a lane
abbrev pub EachTried : {T : Type 0} → TailWords T → Laning T → Type 0
EachTried tails lane = AllByRecursion (HasAnsweredWhereNoFault tails.faults) lane.harvesters

module _ {T : Type 0} (tails : TailWords T) (watch : Watch) (opened : List Opened) (moments : List ℕ) (queue box : ℕ) (when : When)
    (only_asked : (one : Opened) → Contains opened one → (before : List Look) → before ≡ one.asked → OnlyRead before) where
  abbrev TriedSo : Harvester T → Type 0
  TriedSo = IsAnsweredOrFailed tails.numbers tails.told tails.faults

  abbrev EachTriedSo : Laning T → Type 0
  EachTriedSo lane = AllByRecursion TriedSo lane.harvesters

  known_one : (ts : List Turned) (hs : List (Harvester T)) → Pairs (IsTurnedSo tails.numbers tails.told watch opened moments) ts hs →
      AllByRecursion (λ (h : Harvester T). IsSome (tails.told h.tail)) hs → AllByRecursion (HasAnsweredWhereNoFault tails.faults) hs → AllByRecursion TriedSo hs
  known_one [] [] stand tell each = tt
  known_one [] (h ∷ hs) stand tell each = absurd stand
  known_one (t ∷ ts) [] stand tell each = absurd stand
  known_one (t ∷ ts) (h ∷ hs) stand tell each = (
    record {
      history = t.history;
      has_told = stand.0.has_told;
      only_asked = only_asked stand.0.opened stand.0.of_files t.history.before stand.0.is_told.history.asked_before;
      tells = tell.0;
      answered = each.0;
    },
    known_one ts hs stand.1 tell.1 each.1,
  )

  known : (files : List (List Turned)) (lanes : List (Laning T)) → Pairs (AreTurnedIn tails watch opened moments) files lanes → AllByRecursion (TellIn tails) lanes →
      AllByRecursion (EachTried tails) lanes → AllByRecursion EachTriedSo lanes
  known [] [] stand tell each = tt
  known [] (lane ∷ lanes) stand tell each = absurd stand
  known (ts ∷ files) [] stand tell each = absurd stand
  known (ts ∷ files) (lane ∷ lanes) stand tell each = (known_one ts lane.harvesters stand.0 tell.0 each.0, known files lanes stand.1 tell.1 each.1)

  each_one : (hs : List (Harvester T)) → AllByRecursion TriedSo hs → AllByRecursion (HasAnsweredWhereNoFault tails.faults) hs
  each_one [] each = tt
  each_one (h ∷ hs) each = (each.0.answered, each_one hs each.1)

  each_lane : (lanes : List (Laning T)) → AllByRecursion EachTriedSo lanes → AllByRecursion (EachTried tails) lanes
  each_lane [] each = tt
  each_lane (lane ∷ lanes) each = (each_one lane.harvesters each.0, each_lane lanes each.1)

  -- by the lanes as they are, and by those to which the turns led
  pub tried_by_turns : (files : List (List Turned)) (olds lanes news : List (Laning T)) (steps : List Step) → Pairs (AreTurnedIn tails watch opened moments) files olds →
      AllByRecursion (TellIn tails) olds → AllByRecursion (EachTried tails) olds → bare_lanes news ≡ bare_lanes lanes → AreStepsOf tails queue box when steps olds lanes →
      AllByRecursion TriedOn steps → AllByRecursion (EachTried tails) news
  tried_by_turns files olds lanes news steps stand tell each same are tried =
      same_but_passes (EachTried tails) (λ lane other harvesters all. subst (λ (hs : List (Harvester T)). AllByRecursion (HasAnsweredWhereNoFault tails.faults) hs) harvesters all) lanes news same
      (each_lane lanes (lanes_keep tails queue box when TriedOn TriedSo (tries_on tails.numbers tails.told tails.faults) steps olds lanes tried are (known files olds stand tell each)))
