-- What a turn of a round found shows in a harvester as the round ends.
use Rattle.std.proofs.Common.{◌≡◌, ◌⊎◌, inl, inr, ⊎_elim, ℕ, zero, suc, ◌<◌, ◌||◌, List, [], ◌∷◌, ◌++◌, Option, Some, IsSome, refl, sym, ap, subst, ◌∙◌, arith}
use Rattle.std.specs.Prelude.{slice_get, slice_set}
use Rattle.std.specs.List.{AllByRecursion}
use Rattle.harvester.specs.History.{Over}
use Rattle.harvester.specs.Standing.{stage_of}
use Rattle.harvester.specs.Turned.{with_turn}
use Rattle.harvester.specs.Turns.{IsCaused, after_did}
use Rattle.harvester.specs.declared.harvester.Harvester.{Harvester}
use Rattle.harvester.specs.declared.stage.Stage.{Stage as ReaderStage}
use Rattle.harvester.specs.declared.stage.Stage.TheVariants as stage
use Rattle.harvester.specs.declared.turn.Turn.{Turn}
use Rattle.harvester.specs.declared.turn.Turn.TheVariants as turn
use Rattle.lanes.specs.Laning.{Laning, without_passes}
use Rattle.lanes.specs.Step.{Step, tallied}
use Rattle.lanes.specs.Steps.{IsMade, Run}
use Rattle.lanes.specs.Tallies.{begun_tally, tally_with}
use Rattle.lanes.specs.Turned.{IsKnown}
use Rattle.lanes.specs.declared.tally.Tally.{Tally}
use Rattle.lanes.specs.declared.run.When.{When}
use Rattle.outside.specs.Tails.{TailHistory}
use Rattle.restart_join.specs.declared.start.TheConstants.{MAX_EPOCH}
use Rattle.rounds.specs.Causes.{MetFault, WasOver}
use Rattle.rounds.specs.Crewed.{bare_lanes}
use Rattle.rounds.specs.Pairs.{SomeOf}
use Rattle.rounds.specs.Placed.{AreStepsOf}
use Rattle.rounds.specs.Words.{TailWords}
use Rattle.wire_base.specs.declared.note.Begin.{Begin}
use Rattle.wire_base.specs.declared.numbers.Slot.{Slot}
use Rattle.run_steps.specs.ClosesTail.{HasFailedFile}
use Rattle.run_steps.specs.MetBy.{IsOverOf, SomeHarvester}
use Rattle.run_steps.proofs.LastOver.{some_behind, some_first}

-- ---- one of several

some_at : {A : Type 0} (P : A → Type 0) (index : ℕ) (xs : List A) (old new : A) → slice_get xs index ≡ Some old → P new → SomeOf P (slice_set xs index new)
some_at P index [] old new was is = absurd cc
some_at P zero (x ∷ xs) old new was is = inl is
some_at P (suc index) (x ∷ xs) old new was is = inr (some_at P index xs old new was is)

-- it is another one, or this one is so, too
some_still : {A : Type 0} (P : A → Type 0) (index : ℕ) (xs : List A) (old new : A) → slice_get xs index ≡ Some old → (P old → P new) → SomeOf P xs → SomeOf P (slice_set xs index new)
some_still P index [] old new was keep some = absurd some
some_still P zero (x ∷ xs) old new was keep some = ⊎_elim (λ here. inl (keep (subst P (let is : x ≡ old = cc in is) here))) (λ later. inr later) some
some_still P (suc index) (x ∷ xs) old new was keep some = ⊎_elim (λ here. inl here) (λ later. inr (some_still P index xs old new was keep later)) some

pub some_parted : {A : Type 0} (P : A → Type 0) (xs ys : List A) → SomeOf P (xs ++ ys) → SomeOf P xs ⊎ SomeOf P ys
some_parted P [] ys some = inr some
some_parted P (x ∷ xs) ys some = ⊎_elim (λ here. inl (inl here)) (λ later. ⊎_elim (λ one. inl (inr one)) (λ other. inr other) (some_parted P xs ys later)) some

-- ---- turns

module _ {T : Type 0} (numbers : T → Option (ℕ × ℕ)) (told : T → Option TailHistory) (faults : T → ℕ) (Q : Step → Type 0) (P : Harvester T → Type 0) where
  -- a turn that is so makes the harvester so, and no turn takes it away
  pub record Shows : Type 0 where
    pub shows : (step : Step) (olds news : List (Harvester T)) (made : IsMade numbers told faults step olds news) → Q step → IsKnown numbers told made.before → P made.after
    pub stays : (step : Step) (olds news : List (Harvester T)) (made : IsMade numbers told faults step olds news) → P made.before → P made.after

  known_on : (step : Step) (olds news : List (Harvester T)) (made : IsMade numbers told faults step olds news) → AllByRecursion (IsKnown numbers told) olds → AllByRecursion (IsKnown numbers told) news
  known_on step olds news made all = subst (λ (l : List (Harvester T)). AllByRecursion (IsKnown numbers told) l) (sym made.is)
      (but_one step.index olds made.after (let before = one_of step.index olds made.before made.was all in
      (after_did step.now.0 step.turn (made.turned.goes before.0 before.1).did (with_turn step.now.0 step.last before.0), (made.turned.goes before.0 before.1).has_told)) all)
    where
      but_one : (index : ℕ) (hs : List (Harvester T)) (after : Harvester T) → IsKnown numbers told after → AllByRecursion (IsKnown numbers told) hs → AllByRecursion (IsKnown numbers told) (slice_set hs index after)
      but_one index [] after here all = tt
      but_one zero (h ∷ hs) after here all = (here, all.1)
      but_one (suc index) (h ∷ hs) after here all = (all.0, but_one index hs after here all.1)

      one_of : (index : ℕ) (hs : List (Harvester T)) (before : Harvester T) → slice_get hs index ≡ Some before → AllByRecursion (IsKnown numbers told) hs → IsKnown numbers told before
      one_of index [] before was all = absurd cc
      one_of zero (h ∷ hs) before was all = let is : h ≡ before = cc in subst (IsKnown numbers told) is all.0
      one_of (suc index) (h ∷ hs) before was all = one_of index hs before was all.1

  known_at : (step : Step) (olds news : List (Harvester T)) (made : IsMade numbers told faults step olds news) → AllByRecursion (IsKnown numbers told) olds → IsKnown numbers told made.before
  known_at step olds news made all = at step.index olds made.was all
    where
      at : (index : ℕ) (hs : List (Harvester T)) → slice_get hs index ≡ Some made.before → AllByRecursion (IsKnown numbers told) hs → IsKnown numbers told made.before
      at index [] was all = absurd cc
      at zero (h ∷ hs) was all = let is : h ≡ made.before = cc in subst (IsKnown numbers told) is all.0
      at (suc index) (h ∷ hs) was all = at index hs was all.1

  pub run_stays : Shows → (steps : List Step) (olds news : List (Harvester T)) → Run numbers told faults steps olds news → SomeOf P olds → SomeOf P news
  run_stays shows [] olds news run some = subst (λ (l : List (Harvester T)). SomeOf P l) (sym run) some
  run_stays shows (step ∷ steps) olds news run some =
      let made = run.1 in
      run_stays shows steps run.0 news run.2 (subst (λ (l : List (Harvester T)). SomeOf P l) (sym made.is)
      (some_still P step.index olds made.before made.after made.was (shows.stays step olds run.0 made) some))

  pub run_shows : Shows → (steps : List Step) (olds news : List (Harvester T)) → Run numbers told faults steps olds news → AllByRecursion (IsKnown numbers told) olds →
      SomeOf Q steps → SomeOf P news
  run_shows shows [] olds news run known some = absurd some
  run_shows shows (step ∷ steps) olds news run known some =
      let made = run.1 in
      ⊎_elim (λ here. run_stays shows steps run.0 news run.2 (subst (λ (l : List (Harvester T)). SomeOf P l) (sym made.is)
      (some_at P step.index olds made.before made.after made.was (shows.shows step olds run.0 made here (known_at step olds run.0 made known)))))
      (λ later. run_shows shows steps run.0 news run.2 (known_on step olds run.0 made known) later) some

module _ {T : Type 0} (tails : TailWords T) (queue box : ℕ) (when : When) (Q : Step → Type 0) (P : Harvester T → Type 0) (shows : Shows tails.numbers tails.told tails.faults Q P) where
  abbrev Known : Laning T → Type 0
  Known lane = AllByRecursion (IsKnown tails.numbers tails.told) lane.harvesters

  lanes_show : (all : List Step) (olds news : List (Laning T)) → AreStepsOf tails queue box when all olds news → AllByRecursion Known olds → SomeOf Q all → SomeHarvester P news
  lanes_show all [] [] are known some = absurd (subst (SomeOf Q) are some)
  lanes_show all [] (new ∷ news) are known some = absurd are
  lanes_show all (old ∷ olds) [] are known some = absurd are
  lanes_show all (old ∷ olds) (new ∷ news) are known some =
      let keeps = are.0.keeps in
      ⊎_elim (λ here. inl (run_shows tails.numbers tails.told tails.faults Q P shows keeps.steps old.harvesters new.harvesters keeps.ran known.0 here))
      (λ later. inr (lanes_show are.1 olds news are.3 known.1 later)) (some_parted Q keeps.steps are.1 (subst (SomeOf Q) are.2 some))

  pub some_but_passes : (lanes others : List (Laning T)) → bare_lanes others ≡ bare_lanes lanes → SomeHarvester P lanes → SomeHarvester P others
  some_but_passes [] others same some = absurd some
  some_but_passes (lane ∷ lanes) [] same some = absurd cc
  some_but_passes (lane ∷ lanes) (other ∷ others) same some =
      let bare : without_passes other ≡ without_passes lane = cc in
      let here : lane.harvesters ≡ other.harvesters = ap (λ (l : Laning T). l.harvesters) (sym bare) in
      let later : bare_lanes others ≡ bare_lanes lanes = cc in
      ⊎_elim (λ one. inl (subst (λ (hs : List (Harvester T)). SomeOf P hs) here one)) (λ rest. inr (some_but_passes lanes others later rest)) some

  lanes_stay : (all : List Step) (olds news : List (Laning T)) → AreStepsOf tails queue box when all olds news → SomeHarvester P olds → SomeHarvester P news
  lanes_stay all [] news are some = absurd some
  lanes_stay all (old ∷ olds) [] are some = absurd are
  lanes_stay all (old ∷ olds) (new ∷ news) are some =
      ⊎_elim (λ here. inl (run_stays tails.numbers tails.told tails.faults Q P shows are.0.keeps.steps old.harvesters new.harvesters are.0.keeps.ran here))
      (λ later. inr (lanes_stay are.1 olds news are.3 later)) some

  -- one that was so before the round is so behind it
  pub round_stays : (all : List Step) (olds lanes news : List (Laning T)) → AreStepsOf tails queue box when all olds lanes → bare_lanes news ≡ bare_lanes lanes →
      SomeHarvester P olds → SomeHarvester P news
  round_stays all olds lanes news are same some = some_but_passes lanes news same (lanes_stay all olds lanes are some)

  -- as the round ends
  pub round_shows : (all : List Step) (olds lanes news : List (Laning T)) → AreStepsOf tails queue box when all olds lanes → bare_lanes news ≡ bare_lanes lanes →
      AllByRecursion Known olds → SomeOf Q all → SomeHarvester P news
  round_shows all olds lanes news are same known some = some_but_passes lanes news same (lanes_show all olds lanes are known some)

-- ---- what is found

module _ {T : Type 0} (numbers : T → Option (ℕ × ℕ)) (told : T → Option TailHistory) (faults : T → ℕ) where
  abbrev Faulty : Harvester T → Type 0
  Faulty harvester = 0 < faults harvester.tail

  pub faults_show : Shows numbers told faults MetFault Faulty
  faults_show = record {
    shows = λ step olds news made met known. let rose = made.turned.read_fault_only_where_faults_rose known.0 known.1 met in omega (arith, rose);
    stays = λ step olds news made some. let more = made.turned.faults_never_fall in omega (arith, some, more);
  }

  pub over_shows : (slot : Slot) → Shows numbers told faults (WasOver slot) (IsOverOf slot)
  over_shows slot = record {
    shows = λ step olds news made met known. record {
      of_slot = ap (λ (b : Begin). b.slot) made.turned.begin_kept ∙ sym made.of_slot ∙ met.of_slot;
      over = is_over step olds news made met known;
      last = was_last step olds news made met known;
    };
    stays = λ step olds news made was. absurd (made.goes_on (inr was.over));
  }
    where
      over_only : (s : ReaderStage) → stage_of s ≡ Over → s ≡ stage.Over
      over_only stage.Reading is = absurd cc
      over_only stage.Asking is = absurd cc
      over_only stage.Ended is = absurd cc
      over_only stage.Changed is = absurd cc
      over_only stage.Over is = refl

      is_over : (step : Step) (olds news : List (Harvester T)) (made : IsMade numbers told faults step olds news) → WasOver slot step → IsKnown numbers told made.before →
          made.after.reader.stage ≡ stage.Over
      is_over step olds news made met known =
          let h = with_turn step.now.0 step.last known.0 in
          let g = made.turned.goes known.0 known.1 in
          let stage_is : stage_of made.after.reader.stage ≡ (after_did step.now.0 turn.EpochsOut g.did h).stage =
          subst (λ (t : Turn). stage_of made.after.reader.stage ≡ (after_did step.now.0 t g.did h).stage) met.turn g.has_told.held.holds.follows.stage in
          let caused = subst (λ (t : Turn). IsCaused told step.now.0 (step.last || known.0.ends) h g.did (after_did step.now.0 t g.did h) made.before t made.after) met.turn g.caused in
          over_only made.after.reader.stage (stage_is ∙ caused.0)

      -- a turn that answers so begins no epoch
      was_last : (step : Step) (olds news : List (Harvester T)) (made : IsMade numbers told faults step olds news) → WasOver slot step → IsKnown numbers told made.before →
          made.after.reader.epoch.0 ≡ MAX_EPOCH
      was_last step olds news made met known =
          let h = with_turn step.now.0 step.last known.0 in
          let g = made.turned.goes known.0 known.1 in
          let epoch_is : made.after.reader.epoch.0 ≡ known.0.present.epoch =
          subst (λ (t : Turn). made.after.reader.epoch.0 ≡ (after_did step.now.0 t g.did h).present.epoch) met.turn g.has_told.held.holds.follows.epoch in
          let caused = subst (λ (t : Turn). IsCaused told step.now.0 (step.last || known.0.ends) h g.did (after_did step.now.0 t g.did h) made.before t made.after) met.turn g.caused in
          epoch_is ∙ caused.1

-- ---- lanes that name a failed file

failed_with : (slot : Slot) (t : Turn) (tally : Tally) → IsSome (tally_with slot t tally).failed → IsSome tally.failed ⊎ (t ≡ turn.ReadFault)
failed_with slot (turn.Issued parcel) tally some = inl some
failed_with slot (turn.Passed span rule) tally some = inl some
failed_with slot turn.More tally some = inl some
failed_with slot turn.AtEnd tally some = inl some
failed_with slot (turn.NewLife epoch) tally some = inl some
failed_with slot turn.Changed tally some = inl some
failed_with slot turn.EpochsOut tally some = inl some
failed_with slot turn.ReadFault tally some = inr refl
failed_with slot turn.NoMemory tally some = inl some

failed_in : (tally : Tally) (steps : List Step) → IsSome (tallied tally steps).failed → IsSome tally.failed ⊎ SomeOf MetFault steps
failed_in tally [] some = inl some
failed_in tally (s ∷ ss) some =
    ⊎_elim (λ earlier. ⊎_elim (λ before. inl before) (λ here. inr (inl here)) (failed_with s.slot s.turn tally earlier)) (λ later. inr (inr later))
    (failed_in (tally_with s.slot s.turn tally) ss some)

module _ {T : Type 0} (tails : TailWords T) (queue box : ℕ) (when : When) where
  failed_lanes : (steps : List Step) (olds news : List (Laning T)) → AreStepsOf tails queue box when steps olds news → SomeOf HasFailedFile news → SomeOf MetFault steps
  failed_lanes steps [] [] are some = absurd some
  failed_lanes steps [] (n ∷ ns) are some = absurd are
  failed_lanes steps (o ∷ os) [] are some = absurd some
  failed_lanes steps (o ∷ os) (n ∷ ns) are some =
      let runs = are.0 in
      let rest = are.1 in
      ⊎_elim
      (λ here. subst (SomeOf MetFault) (sym are.2) (some_first MetFault runs.keeps.steps rest
      (⊎_elim (λ (begun : IsSome (begun_tally runs.moved).failed). absurd cc) (λ found. found)
      (failed_in (begun_tally runs.moved) runs.keeps.steps (subst (λ (t : Tally). IsSome t.failed) runs.tally here)))))
      (λ later. subst (SomeOf MetFault) (sym are.2) (some_behind MetFault runs.keeps.steps rest (failed_lanes rest os ns are.3 later))) some

  failed_but_passes : (lanes others : List (Laning T)) → bare_lanes others ≡ bare_lanes lanes → SomeOf HasFailedFile others → SomeOf HasFailedFile lanes
  failed_but_passes [] [] same some = absurd some
  failed_but_passes [] (other ∷ others) same some = absurd cc
  failed_but_passes (lane ∷ lanes) [] same some = absurd some
  failed_but_passes (lane ∷ lanes) (other ∷ others) same some =
      let bare : without_passes other ≡ without_passes lane = cc in
      let here : other.tally ≡ lane.tally = ap (λ (l : Laning T). l.tally) bare in
      let later : bare_lanes others ≡ bare_lanes lanes = cc in
      ⊎_elim (λ one. inl (subst (λ (t : Tally). IsSome t.failed) here one)) (λ rest. inr (failed_but_passes lanes others later rest)) some

  -- as the round ends
  pub failed_by : (steps : List Step) (olds lanes news : List (Laning T)) → AreStepsOf tails queue box when steps olds lanes → bare_lanes news ≡ bare_lanes lanes → SomeOf HasFailedFile news → SomeOf MetFault steps
  failed_by steps olds lanes news are same some = failed_lanes steps olds lanes are (failed_but_passes lanes news same some)
