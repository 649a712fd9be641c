-- What contracts see of a queue (this project's profile).
use Rattle.std.specs.Prelude.{ℕ}
use Rattle.atomic_table.specs.Seated.{TableId}

-- which queue it is, and how many parcels it can hold
pub record BoundedQueue : Type 0 where
  pub id : TableId
  pub capacity : ℕ
