-- Which calls on an object in memory fail (this project's profile): those that a list names by their number, from 0, and
-- all from the one on at which the object stops.
use Rattle.std.specs.Prelude.{◌⊎◌, ℕ, ◌≤◌, Contains, Option, Some, None}
use Rattle.outside_mem.specs.declared.failing.FailingCalls.{FailingCalls}

-- the call of this number is one at which the object has stopped
abbrev pub HasStopped : Option ℕ → ℕ → Type 0
HasStopped None call = ⊥
HasStopped (Some stop) call = stop ≤ call

-- the next call is to fail
abbrev pub IsNamed : FailingCalls → Type 0
IsNamed f = HasStopped f.stopped_at f.calls ⊎ Contains f.named.items f.calls
