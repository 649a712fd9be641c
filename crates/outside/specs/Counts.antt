-- Counts of an object of the outside, such as its faults (this project's profile). A count is a 64-bit number that
-- never falls; if one more does not fit, it saturates.
use Rattle.std.specs.Prelude.{ℕ, ◌+◌, ◌-◌, ◌^◌, ◌<◌, ◌≤◌, ◌⊎◌, min, max}

-- the count is at the end of its type
abbrev pub IsAtEnd : ℕ → Type 0
IsAtEnd count = 2 ^ 64 - 1 ≤ count

-- the count rose, or it can rise no more
abbrev pub Rose : ℕ → ℕ → Type 0
Rose before now = (before < now) ⊎ IsAtEnd now

-- two counts together, or the end of the type
abbrev pub added_counts : ℕ → ℕ → ℕ
added_counts count more = max count (min (count + more) (2 ^ 64 - 1))

-- the count after one more
abbrev pub next_count : ℕ → ℕ
next_count count = added_counts count 1
