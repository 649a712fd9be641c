-- How the objects are left as a run ends (this project's profile): no lane has a harvester any more. If the last steps were made, what is
-- known of how many notes were posted is what the passes say, the store is open, and the areas are at rest as it has them.
use Rattle.std.specs.Prelude.{◌≡◌, false, All, List}
use Rattle.rounds.specs.Crewed.{lanings}
use Rattle.rounds.specs.Settling.{ArePostsCounted}
use Rattle.rounds.specs.Words.{DiskWords, Words}
use Rattle.rounds.specs.declared.crew.Crew.{Crew}
use Rattle.run_steps.specs.Areas.{BeganAtRest, IsAtRest}
use Rattle.run_steps.specs.Began.{Began}
use Rattle.run_steps.specs.Ends.{Ending, Ends}
use Rattle.run_steps.specs.Met.{AreLeft}
use Rattle.run_steps.specs.Releasing.{HasNoHarvesters}
use Rattle.run_steps.specs.declared.met.Met.{Met}

pub record AreLeftSo {T W L D : Type 0} (disks : DiskWords D) (start : Began D) (ending : Ending D) (met : Met) (crew : Crew T W L) : Type 0 where
  pub released : All HasNoHarvesters (lanings crew.lanes.items)
  pub posts : AreLeft met → ArePostsCounted crew
  pub is_open : AreLeft met → ending.keeper.store.closed ≡ false
  pub at_rest : AreLeft met → BeganAtRest disks start → IsAtRest disks ending.keeper ending.a ending.b

-- what held of the run holds as it ends, and its objects are left like this
pub record HasEnded {T W L D : Type 0} (words : Words T W L D) (start : Began D) (ending : Ending D) (met : Met) (unused wires : List W) : Type 0 where
  pub ends : Ends words start ending met unused wires
  pub left : AreLeftSo words.disks start ending met ends.crew
