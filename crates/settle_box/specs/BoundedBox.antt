-- What contracts see of a box (this project's profile).
use Rattle.std.specs.Prelude.{ℕ}
use Rattle.atomic_table.specs.Seated.{TableId}

-- which box it is, and how many notes it can hold
pub record BoundedBox : Type 0 where
  pub id : TableId
  pub capacity : ℕ
