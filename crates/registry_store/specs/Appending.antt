-- For private clauses: one area that is opened, and while operations are appended to it.
use Rattle.std.specs.Prelude.{◌≡◌, ℕ, ◌≤◌, ◌⊎◌, List, length, take, Option, Some}
use Rattle.outside.specs.DiskImages.{Only}
use Rattle.wire_base.specs.declared.row.Op.{Op}
use Rattle.wire_base.specs.declared.row.Row.{Row}
use Rattle.ship_core.specs.Replay.{replay_on}
use Rattle.registry_log.specs.Starting.{IsShut}
use Rattle.registry_log.specs.State.{IsOpened}

-- nothing is pending on the disk, and it holds an area that is opened, with these rows and this last gate
pub record HoldsOpened {D : Type 0} (contents : D → Option (List ℕ)) (images : D → List ℕ → Type 0) (disk : D) (generation : ℕ) (rows : List Row) (end : ℕ) : Type 0 where
  pub area : List ℕ
  pub holds : contents disk ≡ Some area
  pub settled : Only (contents disk) (images disk)
  pub opened : IsOpened area generation rows end

-- an area is opened with the rows after this many of the operations, from the first one on
pub record IsOpenedWithSome (generation : ℕ) (rows : List Row) (ops : List Op) (area : List ℕ) : Type 0 where
  pub count : ℕ
  pub end : ℕ
  pub within : count ≤ length ops
  pub opened : IsOpened area generation (replay_on rows (take count ops)) end

-- an area that held `before` holds that or nothing that is read, or is opened with such rows
abbrev pub IsStartedWithSome : ℕ → List Row → List Op → List ℕ → List ℕ → Type 0
IsStartedWithSome generation rows ops before area = IsShut before area ⊎ IsOpenedWithSome generation rows ops area
