-- When a lane is done (this project's profile): it holds nothing, and no further turn of its harvesters would find anything.
use Rattle.std.specs.Prelude.{◌≡◌, ◌⊎◌, All, IsTrue}
use Rattle.harvester.specs.declared.harvester.Harvester.{Harvester}
use Rattle.harvester.specs.HasTold.{IsChanged}
use Rattle.harvester.specs.Turns.{IsWaiting}
use Rattle.lanes.specs.Laning.{Laning}
use Rattle.lanes.specs.declared.given.Given.TheVariants.{Nothing}

-- the last turn found the end, nothing was heard of the file since, and no event waits for lines
pub record Rests {T : Type 0} (harvester : Harvester T) : Type 0 where
  pub rests : IsTrue harvester.rests
  pub none_waits : ¬ (IsWaiting harvester)

-- or the file has another key, or its last epoch is over
abbrev pub IsThrough : {T : Type 0} → Harvester T → Type 0
IsThrough harvester = Rests harvester ⊎ IsChanged harvester

pub record IsDone {T : Type 0} (lane : Laning T) : Type 0 where
  pub none_held : lane.held ≡ Nothing
  pub through : All IsThrough lane.harvesters
