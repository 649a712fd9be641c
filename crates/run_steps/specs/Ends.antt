-- How a run ends (this project's profile): its tails are closed, what was settled is stored, its workers' links are finished, and
-- what held of it holds.
use Rattle.std.specs.Prelude.{◌≡◌, ℕ, ◌+◌, ◌≤◌, ◌<◌, ◌^◌, ◌-◌, List, Option}
use Rattle.keeper.specs.Keeping.{Keeping}
use Rattle.lanes.specs.Laning.{Laning}
use Rattle.outside.specs.Folders.{FolderHistory}
use Rattle.rounds.specs.Crewed.{lanings}
use Rattle.rounds.specs.Settled.{AreSettledIn, spans_told}
use Rattle.rounds.specs.Words.{Words}
use Rattle.rounds.specs.declared.crew.Crew.{Crew}
use Rattle.wire_base.specs.declared.numbers.Slot.{Slot}
use Rattle.run_steps.specs.Began.{Began}
use Rattle.run_steps.specs.CarriersEnd.{EndsCarriers}
use Rattle.run_steps.specs.Met.{AreLeft}
use Rattle.run_steps.specs.RunState.{Finished, Halted, OutOfEpochs, Phase, RunState}
use Rattle.run_steps.specs.SoFar.{SoFar}
use Rattle.run_steps.specs.Stands.{Stands}
use Rattle.run_steps.specs.declared.met.Met.{Met}
use Rattle.run_steps.specs.declared.met.Met.TheVariants.{Done, Epochs, Stopped}

-- all that was reported is shipped or dropped, by counts that are not saturated
pub record IsAllSettled {T : Type 0} (lanes : List (Laning T)) (keeper : Keeping) : Type 0 where
  pub below : spans_told lanes < 2 ^ 64 - 1
  pub settled : spans_told lanes ≤ keeper.shipped + keeper.dropped

-- all but the crew, which is released
pub record Ending (D : Type 0) : Type 0 where
  pub shown : Option FolderHistory
  pub moments : Option (List ℕ)
  pub keeper : Keeping
  pub a : D
  pub b : D
  pub phase : Phase

abbrev pub with_crew : {T W L D : Type 0} → Ending D → Crew T W L → RunState T W L D
with_crew ending crew = record {
  shown = ending.shown;
  moments = ending.moments;
  crew = crew;
  keeper = ending.keeper;
  a = ending.a;
  b = ending.b;
  phase = ending.phase;
}

-- what was met, the wires are those of the workers, with their links finished, before those that no worker had
pub record Ends {T W L D : Type 0} (words : Words T W L D) (start : Began D) (ending : Ending D) (met : Met) (unused wires : List W) : Type 0 where
  pub crew : Crew T W L
  pub so_far : SoFar
  pub stands : Stands words start (with_crew ending crew) so_far
  pub ended : EndsCarriers words.links words.wires crew.carriers.items unused wires
  -- a run that is done reported each file to its end, and settled all of it
  pub finished : met ≡ Done → ending.phase ≡ Finished
  pub out_of_epochs : (slot : Slot) → met ≡ Epochs slot → ending.phase ≡ OutOfEpochs slot
  pub stopped : met ≡ Stopped → ending.phase ≡ Halted
  pub all_settled : met ≡ Done → IsAllSettled (lanings crew.lanes.items) ending.keeper
  -- if the last steps were made
  pub stored : AreLeft met → AreSettledIn crew ending.keeper
