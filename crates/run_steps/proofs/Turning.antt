-- What the turns of a round keep of each harvester, lane by lane.
use Rattle.std.proofs.Common.{◌≡◌, ◌≢◌, inr, ℕ, zero, suc, ◌||◌, List, [], ◌∷◌, ◌++◌, Option, Some, None, IsSome, refl, sym, ap, subst, ◌∙◌}
use Rattle.std.specs.Prelude.{slice_get, slice_set}
use Rattle.std.specs.List.{AllByRecursion}
use Rattle.harvester.specs.HasTold.{IsChanged}
use Rattle.harvester.specs.History.{Changed, History, Over}
use Rattle.harvester.specs.Standing.{stage_of}
use Rattle.harvester.specs.TurnLooks.{AreOfTurn, LooksOn}
use Rattle.harvester.specs.Turned.{with_turn}
use Rattle.harvester.specs.Turns.{Goes, IsCaused, IsLast, after_did}
use Rattle.harvester.specs.declared.harvester.Harvester.{Harvester}
use Rattle.harvester.specs.declared.stage.Stage.TheVariants as stage
use Rattle.harvester.specs.declared.turn.Turn.{Turn}
use Rattle.harvester.specs.declared.turn.Turn.TheVariants as turn
use Rattle.lanes.specs.Laning.{Laning}
use Rattle.lanes.specs.Step.{Step}
use Rattle.lanes.specs.Steps.{Run}
use Rattle.lanes.specs.Turned.{HasTurned, IsKnown}
use Rattle.lanes.specs.declared.run.When.{When}
use Rattle.outside.specs.Files.{File}
use Rattle.outside.specs.Tails.{TailHistory}
use Rattle.outside.specs.declared.history.Look.{Look}
use Rattle.rounds.specs.Placed.{AreStepsOf}
use Rattle.rounds.specs.Words.{TailWords}

module _ {T : Type 0} (numbers : T → Option (ℕ × ℕ)) (told : T → Option TailHistory) (faults : T → ℕ) (Q : Step → Type 0) (P : Harvester T → Type 0) where
  -- where such a turn leads, it is so still
  abbrev pub EachTurnKeeps : Type 0
  EachTurnKeeps = (step : Step) (before after : Harvester T) → Q step → ¬ (IsChanged before) → HasTurned numbers told faults step.now step.last before step.turn after → P before → P after

  each_but_one : (index : ℕ) (olds : List (Harvester T)) (after : Harvester T) → P after → AllByRecursion P olds → AllByRecursion P (slice_set olds index after)
  each_but_one index [] after here all = tt
  each_but_one zero (first ∷ olds) after here all = (here, all.1)
  each_but_one (suc index) (first ∷ olds) after here all = (all.0, each_but_one index olds after here all.1)

  one_of_each : (index : ℕ) (olds : List (Harvester T)) (before : Harvester T) → slice_get olds index ≡ Some before → AllByRecursion P olds → P before
  one_of_each index [] before was all = absurd cc
  one_of_each zero (first ∷ olds) before was all = let is : first ≡ before = cc in subst P is all.0
  one_of_each (suc index) (first ∷ olds) before was all = one_of_each index olds before was all.1

  run_keeps : EachTurnKeeps → (steps : List Step) (olds news : List (Harvester T)) → AllByRecursion Q steps → Run numbers told faults steps olds news →
      AllByRecursion P olds → AllByRecursion P news
  run_keeps keep [] olds news each run all = subst (λ (l : List (Harvester T)). AllByRecursion P l) (sym run) all
  run_keeps keep (step ∷ steps) olds news each run all =
      let made = run.1 in
      let after = keep step made.before made.after each.0 made.goes_on made.turned (one_of_each step.index olds made.before made.was all) in
      let mid = subst (λ (l : List (Harvester T)). AllByRecursion P l) (sym made.is) (each_but_one step.index olds made.after after all) in
      run_keeps keep steps run.0 news each.1 run.2 mid

  first_of_steps : (first rest : List Step) → AllByRecursion Q (first ++ rest) → AllByRecursion Q first × AllByRecursion Q rest
  first_of_steps [] rest each = (tt, each)
  first_of_steps (step ∷ first) rest each = let later = first_of_steps first rest each.1 in ((each.0, later.0), later.1)

module _ {T : Type 0} (tails : TailWords T) (queue box : ℕ) (when : When) (Q : Step → Type 0) (P : Harvester T → Type 0)
    (keep : EachTurnKeeps tails.numbers tails.told tails.faults Q P) where
  abbrev InLane : Laning T → Type 0
  InLane lane = AllByRecursion P lane.harvesters

  -- of all lanes
  pub lanes_keep : (all : List Step) (olds news : List (Laning T)) → AllByRecursion Q all → AreStepsOf tails queue box when all olds news →
      AllByRecursion InLane olds → AllByRecursion InLane news
  lanes_keep all [] [] each are so = tt
  lanes_keep all [] (new ∷ news) each are so = absurd are
  lanes_keep all (old ∷ olds) [] each are so = absurd are
  lanes_keep all (old ∷ olds) (new ∷ news) each are so =
      let keeps = are.0.keeps in
      let parts = first_of_steps tails.numbers tails.told tails.faults Q P keeps.steps are.1 (subst (λ (l : List Step). AllByRecursion Q l) are.2 each) in (
        run_keeps tails.numbers tails.told tails.faults Q P keep keeps.steps old.harvesters new.harvesters parts.0 keeps.ran so.0,
        lanes_keep are.1 olds news parts.1 are.3 so.1,
      )

-- ---- tails that tell go on telling

abbrev pub Any : Step → Type 0
Any step = Unit {0}

abbrev pub NotOut : Step → Type 0
NotOut step = step.turn ≢ turn.EpochsOut

abbrev pub Tells : {T : Type 0} → (T → Option TailHistory) → Harvester T → Type 0
Tells told harvester = IsSome (told harvester.tail)

module _ {T : Type 0} (numbers : T → Option (ℕ × ℕ)) (told : T → Option TailHistory) (faults : T → ℕ) where
  pub tell_on : EachTurnKeeps numbers told faults Any (Tells told)
  tell_on step before after any goes_on turned tells = by_case (told before.tail) tells turned.looks
    where
      Are : File → List Look → Type 0
      Are = AreOfTurn before.reader.stage before.reader step.turn

      by_case : (o : Option TailHistory) → IsSome o → LooksOn Are (numbers before.tail) o (told after.tail) → IsSome (told after.tail)
      by_case None some looks = absurd cc
      by_case (Some history) some looks = subst (λ (o : Option TailHistory). IsSome o) (sym looks.added.kept) refl

  -- ---- none is out of epochs where no turn answered so

  -- what it told is known, and it is not out of epochs
  pub record IsNotOver (harvester : Harvester T) : Type 0 where
    pub known : IsKnown numbers told harvester
    pub not_over : harvester.reader.stage ≢ stage.Over

  pub not_over_on : EachTurnKeeps numbers told faults NotOut IsNotOver
  not_over_on step before after not_out goes_on turned was = record { known = (after_did step.now.0 step.turn g.did h, g.has_told); not_over = by_turn step.turn refl }
    where
      history : History
      history = was.known.0

      h : History
      h = with_turn step.now.0 step.last history

      g : Goes numbers told 16_384 step.now.0 (step.last || history.ends) h before step.turn after
      g = turned.goes history was.known.1

      stage_is : stage_of after.reader.stage ≡ (after_did step.now.0 step.turn g.did h).stage
      stage_is = g.has_told.held.holds.follows.stage

      -- of a turn that is not the last one
      none : (IsLast step.turn → ⊥) → after.reader.stage ≢ stage.Over
      none not_last over = not_last ((turned.changed history was.known.1).0 (inr over))

      by_turn : (t : Turn) → step.turn ≡ t → after.reader.stage ≢ stage.Over
      by_turn (turn.Issued parcel) is = none (λ last. subst IsLast is last)
      by_turn (turn.Passed span rule) is = none (λ last. subst IsLast is last)
      by_turn turn.More is = none (λ last. subst IsLast is last)
      by_turn turn.AtEnd is = none (λ last. subst IsLast is last)
      by_turn (turn.NewLife epoch) is = none (λ last. subst IsLast is last)
      by_turn turn.EpochsOut is = absurd (not_out is)
      by_turn turn.ReadFault is = none (λ last. subst IsLast is last)
      by_turn turn.NoMemory is = none (λ last. subst IsLast is last)
      by_turn turn.Changed is = λ over.
          let of : stage_of after.reader.stage ≡ (after_did step.now.0 turn.Changed g.did h).stage =
          subst (λ (t : Turn). stage_of after.reader.stage ≡ (after_did step.now.0 t g.did h).stage) is stage_is in
          let caused : g.did.stage ≡ Changed =
          subst (λ (t : Turn). IsCaused told step.now.0 (step.last || history.ends) h g.did (after_did step.now.0 t g.did h) before t after) is g.caused in
          let over_is : stage_of after.reader.stage ≡ Over = ap stage_of over in
          absurd (let no : Over ≡ Changed = sym over_is ∙ of ∙ caused in cc)
