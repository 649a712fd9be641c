-- What the areas hold while operations are committed (this project's profile): at every moment the rows after a prefix of
-- the operations, none of them skipped.
use Rattle.std.specs.Prelude.{◌≡◌, ℕ, ◌≤◌, ◌⊎◌, List, length, take, Option, Some}
use Rattle.outside.specs.DiskImages.{LeavesOnly}
use Rattle.wire_base.specs.declared.row.Op.{Op}
use Rattle.wire_base.specs.declared.row.Row.{Row}
use Rattle.ship_core.specs.Replay.{replay_on}
use Rattle.registry_log.specs.Starting.{IsBlank, IsClosed}
use Rattle.registry_log.specs.State.{IsOpened}
use Rattle.registry_store.specs.Choice.{GivesRows}

-- there are at most 65,536 rows, from the first operation to the last
abbrev pub AreFewThroughout : List Row → List Op → Type 0
AreFewThroughout rows ops = (count : ℕ) → count ≤ length ops → length (replay_on rows (take count ops)) ≤ 65_536

-- these are the rows after some of the operations, from the first one on
pub record AreAfterSome (rows : List Row) (ops : List Op) (found : List Row) : Type 0 where
  pub count : ℕ
  pub within : count ≤ length ops
  pub replayed : replay_on rows (take count ops) ≡ found

-- the bytes of A and B give the rows after some of the operations
pub record GivesSome (rows : List Row) (ops : List Op) (first second : List ℕ) : Type 0 where
  pub found : List Row
  pub after : AreAfterSome rows ops found
  pub given : GivesRows first second found

-- an area is opened, with at least this generation, and has the rows after some of the operations
pub record IsOpenedAfterSome (generation : ℕ) (rows : List Row) (ops : List Op) (area : List ℕ) : Type 0 where
  pub its_generation : ℕ
  pub found : List Row
  pub end : ℕ
  pub later : generation ≤ its_generation
  pub after : AreAfterSome rows ops found
  pub opened : IsOpened area its_generation found end

-- an area holds what it held before, or nothing that is read, or is opened with such rows
abbrev pub MayHold : Option (List ℕ) → ℕ → List Row → List Op → List ℕ → Type 0
MayHold before generation rows ops area =
    (before ≡ Some area) ⊎ ((IsBlank area ⊎ IsClosed area) ⊎ IsOpenedAfterSome generation rows ops area)

-- from two disks to the same ones later: what either may have held meanwhile, while operations were committed to these
-- rows of this generation
pub record GoesOn {D : Type 0} (contents : D → Option (List ℕ)) (moment : D → ℕ) (images_since : D → ℕ → List ℕ → Type 0)
    (generation : ℕ) (rows : List Row) (ops : List Op) (a b later_a later_b : D) : Type 0 where
  pub of_a : LeavesOnly moment images_since a later_a (MayHold (contents a) generation rows ops)
  pub of_b : LeavesOnly moment images_since b later_b (MayHold (contents b) generation rows ops)
