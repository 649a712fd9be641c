-- Each file of a lane that holds nothing as a round ends was visited in it.
use Rattle.std.specs.Prelude.{slice_get, slice_set}
use Rattle.std.proofs.Common.{◌≡◌, ◌≢◌, ◌⊎◌, inl, inr, ℕ, zero, suc, ◌≤◌, List, [], ◌∷◌, ◌++◌, Option, Some, None, refl, sym, ap, subst, ◌∙◌, append_assoc, append-nil, arith}
use Rattle.std.proofs.lemmas.Bool.{cases_eq}
use Rattle.std.proofs.lemmas.Option.{slice_get_within}
use Rattle.outside.specs.declared.history.Look.{Look}
use Rattle.outside.specs.Files.{File}
use Rattle.outside.specs.Tails.{TailHistory}
use Rattle.harvester.specs.declared.harvester.Harvester.{Harvester}
use Rattle.harvester.specs.declared.stage.Stage.{Stage}
use Rattle.harvester.specs.declared.stage.Stage.TheVariants.{Reading, Asking, Ended, Changed, Over}
use Rattle.harvester.specs.declared.turn.Turn.{Turn}
use Rattle.harvester.specs.declared.turn.Turn.TheVariants as turn
use Rattle.harvester.specs.HasTold.{IsChanged}
use Rattle.harvester.specs.Held.{Held}
use Rattle.harvester.specs.TurnLooks.{AreOfReading, AreOfTurn, AskForKey, IsRefused, LooksInTurn, LooksOn, TellsOrFails}
use Rattle.harvester.specs.Turned.{HasOneEvent, IsByKey}
use Rattle.lanes.specs.Laning.{Laning}
use Rattle.lanes.specs.Running.{IsTurnedOrChanged, LaneRuns}
use Rattle.lanes.specs.Step.{Step, turns_of}
use Rattle.lanes.specs.Steps.{IsMade, Run}
use Rattle.lanes.specs.Visiting.{AreVisited, AsksLength, IsReadNoFurther, IsVisited, LooksAgain}
use Rattle.lanes.specs.declared.given.Given.TheVariants.{Nothing}
use Rattle.lanes.specs.declared.run.When.{When}
use Rattle.lanes.proofs.Passing.{other_is_none, other_kept, turns_on}

-- ---- one turn

told_or_failed : (answer : Turn) → TellsOrFails answer → HasOneEvent answer ⊎ IsRefused answer
told_or_failed (turn.Issued parcel) tells = inl tt
told_or_failed (turn.Passed span rule) tells = inl tt
told_or_failed turn.More tells = absurd tells
told_or_failed turn.AtEnd tells = absurd tells
told_or_failed (turn.NewLife epoch) tells = absurd tells
told_or_failed turn.Changed tells = absurd tells
told_or_failed turn.EpochsOut tells = absurd tells
told_or_failed turn.ReadFault tells = inr tt
told_or_failed turn.NoMemory tells = inr tt

keyed_or_failed : (held : Held) (answer : Turn) (file : File) (looks : List Look) → AskForKey held answer file looks → IsByKey answer ⊎ IsRefused answer
keyed_or_failed held (turn.NewLife epoch) file looks asked = inl tt
keyed_or_failed held turn.EpochsOut file looks asked = inl tt
keyed_or_failed held turn.Changed file looks asked = inl tt
keyed_or_failed held turn.ReadFault file looks asked = inr tt
keyed_or_failed held turn.NoMemory file looks asked = inr tt
keyed_or_failed held (turn.Issued parcel) file looks asked = absurd asked
keyed_or_failed held (turn.Passed span rule) file looks asked = absurd asked
keyed_or_failed held turn.More file looks asked = absurd asked
keyed_or_failed held turn.AtEnd file looks asked = absurd asked

-- what one turn of a harvester did
abbrev Did : {T : Type 0} → (T → Option TailHistory) → Harvester T → Turn → Harvester T → Type 0
Did told before answer after =
    HasOneEvent answer ⊎ (AsksLength (told before.tail) (told after.tail)
    ⊎ (IsReadNoFurther before ⊎ (IsRefused answer ⊎ ((before.reader.stage ≡ Asking) × IsByKey answer))))

module _ {T : Type 0} (numbers : T → Option (ℕ × ℕ)) (told : T → Option TailHistory) where
  module _ (before : Harvester T) (answer : Turn) (after : Harvester T) (goes_on : ¬ (IsChanged before)) where
    by_reading : (o : Option TailHistory) → LooksOn (AreOfReading before.reader answer) (numbers before.tail) o (told after.tail) →
        HasOneEvent answer ⊎ (AsksLength o (told after.tail) ⊎ (IsReadNoFurther before ⊎ (IsRefused answer ⊎ ((before.reader.stage ≡ Asking) × IsByKey answer))))
    by_reading None looks = inr (inl looks)
    by_reading (Some history) looks = by_looks _ looks.looks looks.are looks.added.kept
      where
        by_looks : (file : File) (some : List Look) → AreOfReading before.reader answer file some →
            told after.tail ≡ Some (record history { looks = history.looks ++ some }) →
            HasOneEvent answer ⊎ (LooksAgain history (told after.tail) ⊎ (IsReadNoFurther before ⊎ (IsRefused answer ⊎ ((before.reader.stage ≡ Asking) × IsByKey answer))))
        by_looks file [] are kept = elim (told_or_failed answer are) [ inl one ↦ inl one | inr failed ↦ inr (inr (inr (inl failed))) ]
        by_looks file (look ∷ others) are kept = inr (inl (record { asked = look; others = others; asks = are.0; kept = kept }))

    by_asking : before.reader.stage ≡ Asking → (o : Option TailHistory) → LooksOn (AskForKey before.reader answer) (numbers before.tail) o (told after.tail) →
        HasOneEvent answer ⊎ (AsksLength o (told after.tail) ⊎ (IsReadNoFurther before ⊎ (IsRefused answer ⊎ ((before.reader.stage ≡ Asking) × IsByKey answer))))
    by_asking is None looks = inr (inl looks)
    by_asking is (Some history) looks =
        elim (keyed_or_failed before.reader answer _ looks.looks looks.are) [
          | inl keyed ↦ inr (inr (inr (inr (is, keyed))))
          | inr failed ↦ inr (inr (inr (inl failed)))
        ]

    did : LooksInTurn numbers told before answer after → Did told before answer after
    did looks = by_stage before.reader.stage refl looks
      where
        by_stage : (stage : Stage) → before.reader.stage ≡ stage → LooksOn (AreOfTurn stage before.reader answer) (numbers before.tail) (told before.tail) (told after.tail) →
            Did told before answer after
        by_stage Reading is looks = by_reading (told before.tail) looks
        by_stage Asking is looks = by_asking is (told before.tail) looks
        by_stage Ended is looks = inr (inr (inl (inl is)))
        by_stage Changed is looks = absurd (goes_on (inl is))
        by_stage Over is looks = absurd (goes_on (inr is))

-- ---- looks are never lost

abbrev Grows : Option TailHistory → Option TailHistory → Type 0
Grows None after = after ≡ None
Grows (Some history) after = (more : List Look) × (after ≡ Some (record history { looks = history.looks ++ more }))

same_grows : (o : Option TailHistory) → Grows o o
same_grows None = refl
same_grows (Some history) = ([], ap (λ (l : List Look). Some (record history { looks = l })) (sym (append-nil history.looks)))

grows_on : (one other after : Option TailHistory) → Grows one other → Grows other after → Grows one after
grows_on None other after first second = subst (λ (o : Option TailHistory). Grows o after) first second
grows_on (Some history) other after first second =
    let there : Grows (Some (record history { looks = history.looks ++ first.0 })) after = subst (λ (o : Option TailHistory). Grows o after) first.1 second in
    (first.0 ++ there.0, there.1 ∙ ap (λ (l : List Look). Some (record history { looks = l })) (append_assoc history.looks first.0 there.0))

looks_grow : (Are : File → List Look → Type 0) (numbers : Option (ℕ × ℕ)) (o after : Option TailHistory) → LooksOn Are numbers o after → Grows o after
looks_grow Are numbers None after looks = looks
looks_grow Are numbers (Some history) after looks = (looks.looks, looks.added.kept)

asks_on : (one other after : Option TailHistory) → AsksLength one other → Grows other after → AsksLength one after
asks_on None other after asks grows = subst (λ (o : Option TailHistory). Grows o after) asks grows
asks_on (Some history) other after asks grows =
    let there : Grows (Some (record history { looks = history.looks ++ asks.asked ∷ asks.others })) after = subst (λ (o : Option TailHistory). Grows o after) asks.kept grows in
    record {
      asked = asks.asked;
      others = asks.others ++ there.0;
      asks = asks.asks;
      kept = there.1 ∙ ap (λ (l : List Look). Some (record history { looks = l })) (append_assoc history.looks (asks.asked ∷ asks.others) there.0);
    }

-- ---- the turns of a round

same_one : {X : Type 0} (a b : X) → Some a ≡ Some b → a ≡ b
same_one a b same = cc

-- a member that was set is there
set_there : {X : Type 0} (xs : List X) (i : ℕ) (x y : X) → slice_get xs i ≡ Some x → slice_get (slice_set xs i y) i ≡ Some y
set_there [] i x y is = absurd (let q : None ≡ Some x = is in cc)
set_there (first ∷ xs) zero x y is = refl
set_there (first ∷ xs) (suc i) x y is = set_there xs i x y is

module _ {T : Type 0} (numbers : T → Option (ℕ × ℕ)) (told : T → Option TailHistory) (faults : T → ℕ) where
  -- the harvester at this place before a turn, and after it
  module _ (step : Step) (olds mids : List (Harvester T)) (made : IsMade numbers told faults step olds mids) (index : ℕ) (before : Harvester T) (was : slice_get olds index ≡ Some before) where
    other_there : index ≢ step.index → slice_get mids index ≡ Some before
    other_there apart = ap (λ (l : List (Harvester T)). slice_get l index) made.is ∙ other_kept olds step.index index made.after apart ∙ was

    its_before : index ≡ step.index → made.before ≡ before
    its_before same = same_one made.before before (sym made.was ∙ ap (slice_get olds) (sym same) ∙ was)

    its_after : index ≡ step.index → slice_get mids index ≡ Some made.after
    its_after same =
        ap (λ (l : List (Harvester T)). slice_get l index) made.is ∙ ap (slice_get (slice_set olds step.index made.after)) same
        ∙ set_there olds step.index made.before made.after made.was

  run_grows : (steps : List Step) (olds news : List (Harvester T)) → Run numbers told faults steps olds news → (index : ℕ) (before after : Harvester T) →
      slice_get olds index ≡ Some before → slice_get news index ≡ Some after → Grows (told before.tail) (told after.tail)
  run_grows [] olds news run index before after was is =
      subst (λ (h : Harvester T). Grows (told before.tail) (told h.tail)) (same_one before after (sym was ∙ ap (λ (l : List (Harvester T)). slice_get l index) (sym run) ∙ is))
      (same_grows (told before.tail))
  run_grows (step ∷ steps) olds news (mids, made, run) index before after was is =
      elim (cases_eq index step.index) [
        | inl same ↦ grows_on (told before.tail) (told made.after.tail) (told after.tail)
            (subst (λ (h : Harvester T). Grows (told h.tail) (told made.after.tail)) (its_before step olds mids made index before was same)
            (looks_grow (AreOfTurn made.before.reader.stage made.before.reader step.turn) (numbers made.before.tail) (told made.before.tail) (told made.after.tail) made.turned.looks))
            (run_grows steps mids news run index made.after after (its_after step olds mids made index before was same) is)
        | inr apart ↦ run_grows steps mids news run index before after (other_there step olds mids made index before was apart) is
      ]

  -- one that is turned at all
  visited : (steps : List Step) (olds news : List (Harvester T)) → Run numbers told faults steps olds news → (index : ℕ) (before after : Harvester T) →
      slice_get olds index ≡ Some before → slice_get news index ≡ Some after → 1 ≤ turns_of index steps → IsVisited told index steps before after
  visited [] olds news run index before after was is some = absurd (omega (arith, some))
  visited (step ∷ steps) olds news (mids, made, run) index before after was is some =
      elim (cases_eq index step.index) [
        | inl same ↦ here same
        | inr apart ↦ later (visited steps mids news run index before after (other_there step olds mids made index before was apart) is
            (omega (arith, some, other_is_none index step.index apart)))
      ]
    where
      later : IsVisited told index steps before after → IsVisited told index (step ∷ steps) before after
      later (inl one) = inl (inr one)
      later (inr (inl asks)) = inr (inl asks)
      later (inr (inr (inl ended))) = inr (inr (inl ended))
      later (inr (inr (inr (inl failed)))) = inr (inr (inr (inl (inr failed))))
      later (inr (inr (inr (inr keyed)))) = inr (inr (inr (inr (record { asking = keyed.asking; told = inr keyed.told }))))

      by_turn : index ≡ step.index → Grows (told made.after.tail) (told after.tail) → Did told before step.turn made.after → IsVisited told index (step ∷ steps) before after
      by_turn same grows (inl one) = inl (inl (sym same, one))
      by_turn same grows (inr (inl asks)) = inr (inl (asks_on (told before.tail) (told made.after.tail) (told after.tail) asks grows))
      by_turn same grows (inr (inr (inl ended))) = inr (inr (inl ended))
      by_turn same grows (inr (inr (inr (inl failed)))) = inr (inr (inr (inl (inl (sym same, failed)))))
      by_turn same grows (inr (inr (inr (inr keyed)))) = inr (inr (inr (inr (record { asking = keyed.0; told = inl (sym same, keyed.1) }))))

      here : index ≡ step.index → IsVisited told index (step ∷ steps) before after
      here same =
          by_turn same (run_grows steps mids news run index made.after after (its_after step olds mids made index before was same) is)
          (subst (λ (h : Harvester T). Did told h step.turn made.after) (its_before step olds mids made index before was same)
          (did numbers told made.before step.turn made.after made.goes_on made.turned.looks))

  pub are_visited : (queue box : ℕ) (when : When) (old new : Laning T) (runs : LaneRuns numbers told faults queue box when old new) → new.held ≡ Nothing →
      AreVisited told runs.keeps.steps old.harvesters new.harvesters
  are_visited queue box when old new runs none index before after was is =
      elim runs.reached [
        | inl turned ↦ by_turns (turned index (slice_get_within old.harvesters index before was))
        | inr held ↦ absurd (held.1 none)
      ]
    where
      by_turns : IsTurnedOrChanged index runs.first old.harvesters → IsVisited told index runs.keeps.steps before after
      by_turns (inl once) =
          visited runs.keeps.steps old.harvesters new.harvesters runs.keeps.ran index before after was is
          (omega (arith, once, turns_on index runs.first runs.more, ap (turns_of index) runs.are))
      by_turns (inr none_turned) =
          inr (inr (inl (inr (subst (λ (h : Harvester T). IsChanged h) (same_one none_turned.1.one before (sym none_turned.1.is ∙ was)) none_turned.1.changed))))
