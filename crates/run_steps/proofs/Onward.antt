-- The steps of a run that keep what stands of it, as the relation that their contracts name; and none, and two of them.
use Rattle.std.proofs.Common.{◌≡◌, ◌⊎◌, ℕ, ◌≤◌, false, true, List, Option, None, IfSome}
use Rattle.std.specs.List.{AllByRecursion}
use Rattle.event_tree.specs.declared.settings.Settings.{Settings}
use Rattle.lanes.specs.Done.{IsDone}
use Rattle.lanes.specs.declared.run.When.{When}
use Rattle.mem_queue.specs.BoundedQueue.{BoundedQueue}
use Rattle.outside.specs.Folders.{FolderHistory}
use Rattle.outside.specs.Times.{GivesMoment}
use Rattle.rounds.specs.Crewed.{lanings}
use Rattle.rounds.specs.Crewing.{crewing}
use Rattle.rounds.specs.RoundKeeps.{RoundKeeps}
use Rattle.rounds.specs.Rounds.{Rounds}
use Rattle.rounds.specs.Settling.{SettlingKeeps}
use Rattle.rounds.specs.Words.{Words}
use Rattle.rounds.specs.declared.answer.Round.{Round}
use Rattle.rounds.specs.declared.crew.Crew.{Crew}
use Rattle.rounds.specs.declared.storing.Storing.{Storing}
use Rattle.settle_box.specs.BoundedBox.{BoundedBox}
use Rattle.wire_base.specs.declared.numbers.Slot.{Slot}
use Rattle.run_steps.specs.Areas.{IsAtRest}
use Rattle.run_steps.specs.ClosesTail.{some_failed}
use Rattle.run_steps.specs.MetBy.{IsOverOf, SomeHarvester}
use Rattle.run_steps.specs.Onward.{Onward, RunRules}
use Rattle.run_steps.specs.RunState.{Finished, Following, OutOfEpochs, Phase, Reading, RunState, within}
use Rattle.run_steps.specs.Stands.{Follows, ReadsYet}
use Rattle.run_steps.proofs.Growing.{grown_by_nothing, grown_by_two}
use Rattle.run_steps.proofs.Rounding.{stands_on}
use Rattle.run_steps.proofs.Settling.{stands_settled}

module _ {T W L D : Type 0} (words : Words T W L D) where
  pub onward_by_nothing : (rules : RunRules) (state : RunState T W L D) → Onward words rules state state
  unfolding Onward
  onward_by_nothing rules state start so_far same stands at_rest = record { so_far = so_far; stands = stands; grown = grown_by_nothing so_far }

  -- where the areas are at rest behind the first
  pub onward_by_two : (rules : RunRules) (first mid last : RunState T W L D) → (IsAtRest words.disks first.keeper first.a first.b → IsAtRest words.disks mid.keeper mid.a mid.b) →
      Onward words rules first mid → Onward words rules mid last → Onward words rules first last
  unfolding Onward
  onward_by_two rules first mid last at_rest one other start so_far same stands began =
      let further = one start so_far same stands began in
      let then = other start further.so_far same further.stands (λ at_start. at_rest (began at_start)) in
      record { so_far = then.so_far; stands = then.stands; grown = grown_by_two so_far further.so_far then.so_far further.grown then.grown }

  module _ (reads : (disk : D) → IfSome (words.disks.contents disk) (words.disks.images disk))
      (counts : (disk : D) (since : ℕ) (image : List ℕ) → since ≤ words.disks.moment disk → words.disks.images disk image → words.disks.images_since disk since image)
      (queue : BoundedQueue) (desk : BoundedBox) (old new : Crew T W L) (before after : Storing D) (round : Round) (shown : Option FolderHistory) where
    pub round_onward : (settings : Settings) (when : When) (moments later : Option (List ℕ)) (from phase : Phase) → GivesMoment moments when.now.0 later →
        Rounds words queue desk when (crewing old before) (crewing new after) round → RoundKeeps words queue desk when (crewing old before) (crewing new after) round →
        ((phase ≡ Reading) ⊎ (phase ≡ Finished) → from ≡ Reading) →
        ((phase ≡ Reading) ⊎ (phase ≡ Finished) → round.epochs ≡ None) → (phase ≡ Finished → (when.last ≡ true) × AllByRecursion IsDone (lanings new.lanes.items)) →
        ((slot : Slot) → phase ≡ OutOfEpochs slot → SomeHarvester (IsOverOf slot) (lanings new.lanes.items)) →
        (ReadsYet phase → ((phase ≡ Reading) ⊎ Follows phase) × (round.memory ≡ false)) →
        (Follows phase → (phase ≡ Following) × (from ≡ Following) × (round.epochs ≡ None) × (round.memory ≡ false)) →
        ((phase ≡ Reading) ⊎ (phase ≡ Finished) → (round.memory ≡ false) × (some_failed (lanings new.lanes.items) ≡ false)) →
        Onward words (record { settings = settings; once = when.last }) (within shown moments old before from) (within shown later new after phase)
    unfolding Onward
    round_onward settings when moments later from phase gives ran keeps read none_out done out yet follows none_refused start so_far same stands began =
        stands_on words queue desk when (crewing old before) (crewing new after) round ran keeps from start so_far shown moments later stands gives same.once phase read none_out done out yet follows none_refused reads counts began

    pub settle_onward : (rules : RunRules) (moments : Option (List ℕ)) (phase : Phase) → SettlingKeeps words queue desk (crewing old before) (crewing new after) round →
        Onward words rules (within shown moments old before phase) (within shown moments new after phase)
    unfolding Onward
    settle_onward rules moments phase keeps start so_far same stands began =
        stands_settled words queue desk (crewing old before) (crewing new after) round keeps start so_far shown moments phase stands reads counts began
