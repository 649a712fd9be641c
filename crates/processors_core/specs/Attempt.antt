-- What a processor makes of an event's tree: another tree, or an error with its text (Filebeat reference, processors;
-- what is an error, and its text, are this project's profile). Several steps of one processor end at the first error.
use Rattle.std.specs.Prelude.{ℕ, List, Option, Some, None}
use Rattle.event_tree.specs.Value.{TreeValue}

pub data Attempt : Type 0 where
  Done : TreeValue → Attempt
  Failed : List ℕ → Attempt

-- a further step, unless there was an error
abbrev pub and_then : Attempt → (TreeValue → Attempt) → Attempt
and_then (Done tree) next = next tree
and_then (Failed text) next = Failed text

-- the tree, or the error's text if there is one
abbrev pub attempt_of : Option (List ℕ) → TreeValue → Attempt
attempt_of None tree = Done tree
attempt_of (Some text) tree = Failed text
