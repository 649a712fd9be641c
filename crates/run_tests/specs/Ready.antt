-- A lane that may be run with this queue and this box.
use Rattle.std.specs.Prelude.{ℕ, All, Option}
use Rattle.atomic_table.specs.Seated.{TableId}
use Rattle.batch_worker.specs.Steps.{PostsOf}
use Rattle.outside.specs.Tails.{TailHistory}
use Rattle.lanes.specs.Giving.{IsInRange}
use Rattle.lanes.specs.Handing.{PutsOf}
use Rattle.lanes.specs.Laning.{Laning}
use Rattle.lanes.specs.Turned.{IsKnown}

pub record IsReady {T : Type 0} (numbers : T → Option (ℕ × ℕ)) (told : T → Option TailHistory) (queue desk : TableId) (lane : Laning T) : Type 0 where
  pub puts : PutsOf queue lane.put
  pub posts : PostsOf desk lane.post
  pub in_range : IsInRange lane.held
  pub known : All (IsKnown numbers told) lane.harvesters
