-- Where a span begins and where it ends (this project's profile).
use Rattle.std.specs.Prelude.{ℕ}

-- the places from start up to end without end
pub record Extent : Type 0 where
  pub start : ℕ
  pub end : ℕ
