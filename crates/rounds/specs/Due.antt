-- When the keeper has turns beside the others (this project's profile): when three quarters of the box's room were taken as
-- the round before ended, and when it has gone without for 32 rounds.
use Rattle.std.specs.Prelude.{◌⊎◌, ◌*◌, ◌/◌, ◌≤◌}
use Rattle.rounds.specs.declared.crew.Pace.{Pace}
use Rattle.rounds.specs.declared.crew.TheConstants.{MAX_ROUNDS_WITHOUT}

abbrev pub IsDue : Pace → Type 0
IsDue pace = (MAX_ROUNDS_WITHOUT ≤ pace.without) ⊎ (pace.room / 4 * 3 ≤ pace.boxed)
