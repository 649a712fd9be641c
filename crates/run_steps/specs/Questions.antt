-- How often a run asks the clock and the bell (this project's profile): it asks the clock before each round, and the bell before that. So it
-- never asks the bell alone for long, unless a count is at its end. And the clock gives no more moments than it is asked for.
use Rattle.std.specs.Prelude.{ℕ, ◌+◌, ◌-◌, ◌^◌, ◌<◌, ◌≤◌, List, length, Option, Some, None}
use Rattle.outside.specs.declared.bell.Bell.{Ghosts as BellGhosts}
use Rattle.outside.specs.declared.clock.Clock.{Ghosts as ClockGhosts}

-- how many moments the clock has given, each that differs from the one before it; if they are known
abbrev pub count_given : Option (List ℕ) → ℕ
count_given None = 0
count_given (Some moments) = length moments

pub record Questions : Type 0 where
  pub clock : ℕ
  pub bell : ℕ
  pub given : ℕ

-- how often these were asked, and how many moments there are
abbrev pub questions_of : {K B : Type 0} → ClockGhosts K → BellGhosts B → K → B → Questions
questions_of clocks bells clock bell = record { clock = clocks.questions clock; bell = bells.questions bell; given = count_given (clocks.moments clock) }

-- the bell was asked at most so much oftener than the clock, and the clock gave no more moments than it was asked for
pub record AsksOn (more : ℕ) (before after : Questions) : Type 0 where
  pub clock : before.clock ≤ after.clock
  pub bell : before.bell ≤ after.bell
  pub as_often : after.clock < 2 ^ 64 - 1 → after.bell < 2 ^ 64 - 1 → after.bell + before.clock ≤ after.clock + before.bell + more
  pub gives : after.clock < 2 ^ 64 - 1 → after.given + before.clock ≤ after.clock + before.given

-- the clock was asked for each of these moments, if the count of its questions is not at its end
abbrev pub WasAskedFor : ℕ → ℕ → List ℕ → Type 0
WasAskedFor before after moments = after < 2 ^ 64 - 1 → before + length moments ≤ after
