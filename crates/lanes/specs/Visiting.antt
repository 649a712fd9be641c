-- What a round did of each file of a lane that holds nothing as it ends (Filebeat reference, filestream input; this project's
-- profile): none was passed over.
use Rattle.std.specs.Prelude.{◌≡◌, ◌⊎◌, ℕ, List, [], ◌∷◌, ◌++◌, Option, Some, None, slice_get}
use Rattle.outside.specs.declared.history.Look.{Look}
use Rattle.outside.specs.declared.history.Question.TheVariants.{Length}
use Rattle.outside.specs.Tails.{TailHistory}
use Rattle.harvester.specs.declared.harvester.Harvester.{Harvester}
use Rattle.harvester.specs.declared.stage.Stage.TheVariants.{Asking, Ended}
use Rattle.harvester.specs.declared.turn.Turn.{Turn}
use Rattle.harvester.specs.HasTold.{IsChanged}
use Rattle.harvester.specs.TurnLooks.{IsRefused}
use Rattle.harvester.specs.Turned.{HasOneEvent, IsByKey}
use Rattle.lanes.specs.Step.{Step}

-- some turn of the harvester at this place answered so
abbrev pub HasAnswered : ℕ → (Turn → Type 0) → List Step → Type 0
HasAnswered index Answers [] = ⊥
HasAnswered index Answers (step ∷ steps) = ((step.index ≡ index) × Answers step.turn) ⊎ HasAnswered index Answers steps

-- the tail reported further looks, of which the first asked the length
pub record LooksAgain (told : TailHistory) (after : Option TailHistory) : Type 0 where
  pub asked : Look
  pub others : List Look
  pub asks : asked.question ≡ Length
  pub kept : after ≡ Some (record told { looks = told.looks ++ asked ∷ others })

-- a tail whose looks are not known goes on this way
abbrev pub AsksLength : Option TailHistory → Option TailHistory → Type 0
AsksLength None after = after ≡ None
AsksLength (Some told) after = LooksAgain told after

-- its end was found, it has another key, or its last epoch is over
abbrev pub IsReadNoFurther : {T : Type 0} → Harvester T → Type 0
IsReadNoFurther harvester = (harvester.reader.stage ≡ Ended) ⊎ IsChanged harvester

-- its length had fallen before, and the key for which it was asked then without an answer was given now
pub record HasToldKey {T : Type 0} (index : ℕ) (steps : List Step) (before : Harvester T) : Type 0 where
  pub asking : before.reader.stage ≡ Asking
  pub told : HasAnswered index IsByKey steps

-- a span was reported, the length was asked, it was read no further as the round began, a read failed or it was out of memory, or its key
-- was known
abbrev pub IsVisited : {T : Type 0} → (T → Option TailHistory) → ℕ → List Step → Harvester T → Harvester T → Type 0
IsVisited told index steps before after =
    HasAnswered index HasOneEvent steps ⊎ (AsksLength (told before.tail) (told after.tail)
    ⊎ (IsReadNoFurther before ⊎ (HasAnswered index IsRefused steps ⊎ HasToldKey index steps before)))

-- the same holds for each of these harvesters
abbrev pub AreVisited : {T : Type 0} → (T → Option TailHistory) → List Step → List (Harvester T) → List (Harvester T) → Type 0
AreVisited {T} told steps old new =
    (index : ℕ) (before after : Harvester T) → slice_get old index ≡ Some before → slice_get new index ≡ Some after → IsVisited told index steps before after
