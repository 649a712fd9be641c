-- Runs in a row (this project's profile): if a run goes on from the row that the run before left, in the same epoch and
-- the same life, the events up to its own row are those of both, adjoining from the place from which the earlier run reported
-- them; each was dropped by its rule or acknowledged in one of the two runs.
use Rattle.std.specs.Prelude.{◌≡◌, ◌⊎◌, ℕ, List, ◌++◌}
use Rattle.std.specs.List.{AllByRecursion}
use Rattle.ship_core.specs.CoveredEnd.{last_end}
use Rattle.told_events.specs.Rules.{Rules}
use Rattle.told_events.specs.Told.{AreTold}
use Rattle.kept_rows.specs.Account.{AccountedEvent, EpochAccount, events_of, spans_of}
use Rattle.kept_rows.specs.Kept.{ClosesSettled, IsSettled}
use Rattle.kept_rows.specs.Trace.{WireTold}

-- one run's part: the epoch of its account from which it reported its events of the life, and its wires
pub record Part : Type 0 where
  pub epoch : EpochAccount
  pub wires : List WireTold

-- it reported its events of the life, and its row's offset closes those that are settled
pub record LeavesOffset (rules : Rules) (life : List ℕ) (part : Part) (offset : ℕ) : Type 0 where
  pub told : AreTold rules part.epoch.licences life part.epoch.start (events_of part.epoch.told)
  pub closes : ClosesSettled part.wires part.epoch offset

-- the later run goes on from where the earlier one's row was
pub record GoesOnBehind (rules : Rules) (life : List ℕ) (earlier later : Part) (offset : ℕ) : Type 0 where
  pub same_epoch : later.epoch.epoch ≡ earlier.epoch.epoch
  pub left : LeavesOffset rules life earlier later.epoch.start
  pub reached : LeavesOffset rules life later offset

abbrev pub IsFrontOf : List AccountedEvent → List AccountedEvent → Type 0
IsFrontOf front told = (rest : List AccountedEvent) × (told ≡ front ++ rest)

abbrev pub IsSettledInEither : List WireTold → List WireTold → AccountedEvent → Type 0
IsSettledInEither earlier later one = IsSettled earlier one ⊎ IsSettled later one

-- the events of both runs up to the later one's offset
pub record Adjoined (rules : Rules) (life : List ℕ) (earlier later : Part) (offset : ℕ) : Type 0 where
  pub first : List AccountedEvent
  pub second : List AccountedEvent
  pub of_the_earlier : IsFrontOf first earlier.epoch.told
  pub of_the_later : IsFrontOf second later.epoch.told
  pub told : AreTold rules (earlier.epoch.licences ++ later.epoch.licences) life earlier.epoch.start (events_of (first ++ second))
  pub ends : last_end earlier.epoch.start (spans_of (first ++ second)) ≡ offset
  pub each : AllByRecursion (IsSettledInEither earlier.wires later.wires) (first ++ second)
