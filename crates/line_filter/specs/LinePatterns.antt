-- The patterns of an input, by which its messages are kept or dropped (Filebeat reference, filestream input,
-- `include_lines` and `exclude_lines`).
use Rattle.std.specs.Prelude.{ℕ, List}

pub record LinePatterns : Type 0 where
  pub include : List (List ℕ)
  pub exclude : List (List ℕ)
