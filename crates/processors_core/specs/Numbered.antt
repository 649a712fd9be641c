-- The rules that drop events: 10 and the number of the processor, counted from 0 (this project's profile).
use Rattle.std.specs.Prelude.{ℕ, ◌+◌, Option, Some, None}
use Rattle.event_tree.specs.Value.{TreeValue}
use Rattle.processors_core.specs.Outcome.{Outcome, Dropped, Left}

-- what one processor made of a tree, of which this rule drops
abbrev pub numbered : ℕ → Option TreeValue → Outcome
numbered rule None = Dropped rule
numbered rule (Some tree) = Left tree

-- the number of a processor as its rule
abbrev pub by_rule : Outcome → Outcome
by_rule (Dropped number) = Dropped (10 + number)
by_rule (Left tree) = Left tree
