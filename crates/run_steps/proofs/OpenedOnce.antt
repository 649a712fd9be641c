-- A run that reads its files once opens none again and forgets none: what stands of it is what stands with no openings before the last ones.
use Rattle.std.proofs.Common.{◌≡◌, true, List, [], subst}
use Rattle.rounds.specs.Crewed.{lanings}
use Rattle.rounds.specs.Settled.{AreSettledIn}
use Rattle.rounds.specs.Words.{Words}
use Rattle.rounds.specs.declared.crew.Crew.{Crew}
use Rattle.wire_base.specs.declared.numbers.Slot.{Slot}
use Rattle.run_steps.specs.Began.{Began}
use Rattle.run_steps.specs.CarriersEnd.{EndsCarriers}
use Rattle.run_steps.specs.Ends.{Ending, Ends, IsAllSettled, with_crew}
use Rattle.run_steps.specs.Met.{AreLeft}
use Rattle.run_steps.specs.RunState.{Finished, Halted, OutOfEpochs, RunState}
use Rattle.run_steps.specs.SoFar.{Earlier, Forgotten, SoFar}
use Rattle.run_steps.specs.Stands.{Stands}
use Rattle.run_steps.specs.declared.met.Met.{Met}
use Rattle.run_steps.specs.declared.met.Met.TheVariants.{Done, Epochs, Stopped}
use Rattle.run_steps.proofs.EarlierOn.{opened_once}
use Rattle.run_steps.proofs.ForgottenOn.{none_forgotten}

module _ {T W L D : Type 0} (words : Words T W L D) (start : Began D) where
  pub stands_once : (state : RunState T W L D) (so_far : SoFar) → start.once ≡ true → Stands words start state so_far → Stands words start state (opened_once so_far)
  stands_once state so_far once stands =
      subst (λ (l : List Forgotten). Stands words start state (record so_far { earlier = []; forgotten = l }))
      (none_forgotten so_far.scans so_far.opened so_far.left so_far.forgotten (stands.files.scans.none_with_once once) stands.files.forgotten)
      (subst (λ (l : List Earlier). Stands words start state (record so_far { earlier = l })) (stands.files.earlier.none_with_once once) stands)

  module _ (ending : Ending D) (met : Met) (unused wires : List W) where
    -- how a run ends that opened each file once
    pub record EndsOnce : Type 0 where
      pub crew : Crew T W L
      pub so_far : SoFar
      pub stands : Stands words start (with_crew ending crew) (opened_once so_far)
      pub ended : EndsCarriers words.links words.wires crew.carriers.items unused wires
      pub finished : met ≡ Done → ending.phase ≡ Finished
      pub out_of_epochs : (slot : Slot) → met ≡ Epochs slot → ending.phase ≡ OutOfEpochs slot
      pub stopped : met ≡ Stopped → ending.phase ≡ Halted
      pub all_settled : met ≡ Done → IsAllSettled (lanings crew.lanes.items) ending.keeper
      pub stored : AreLeft met → AreSettledIn crew ending.keeper

    abbrev pub ends_once : start.once ≡ true → Ends words start ending met unused wires → EndsOnce
    ends_once once ends = record {
      crew = ends.crew;
      so_far = ends.so_far;
      stands = stands_once (with_crew ending ends.crew) ends.so_far once ends.stands;
      ended = ends.ended;
      finished = ends.finished;
      out_of_epochs = ends.out_of_epochs;
      stopped = ends.stopped;
      all_settled = ends.all_settled;
      stored = ends.stored;
    }
