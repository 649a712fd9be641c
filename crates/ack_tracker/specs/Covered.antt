-- Up to which place all of a file is settled from a base on, and what is settled after it (this project's profile): settled spans
-- merged into intervals that neither overlap nor touch each other.
use Rattle.std.specs.Prelude.{◌≡◌, ◌≢◌, ℕ, ◌<◌, ◌≤◌, All, Contains, List, [], ◌∷◌, ◌++◌, Option, Some, None, unwrap_or}
use Rattle.std.specs.Map.{lookup}
use Rattle.std.specs.BTreeMap.{is_at}
use Rattle.std.specs.Ordering.{nat_cmp}
use Rattle.wire_base.specs.Extent.{Extent}
use Rattle.wire_base.specs.Ranges.{IsPlace}
use Rattle.ship_core.specs.CoveredEnd.{AreEqualOrApart, AreApart}

-- the place up to which all is settled, and the intervals after it: where each begins and ends
pub record Covered : Type 0 where
  pub end : ℕ
  pub ahead : List (ℕ × ℕ)

-- where the interval that begins at the place ends
abbrev pub interval_at : List (ℕ × ℕ) → ℕ → Option ℕ
interval_at ahead place = lookup (is_at (nat_cmp place)) ahead

-- some of the spans lead from one place to another, each beginning where the one before ends
abbrev pub Lead : List Extent → ℕ → List Extent → ℕ → Type 0
Lead spans start [] end = start ≡ end
Lead spans start (span ∷ via) end = Contains spans span × (span.start ≡ start) × (start < span.end) × Lead spans span.end via end

pub record IsLed (spans : List Extent) (start end : ℕ) : Type 0 where
  pub via : List Extent
  pub lead : Lead spans start via end

-- the span lies in an interval
pub record Holds (ahead : List (ℕ × ℕ)) (span : Extent) : Type 0 where
  pub start : ℕ
  pub end : ℕ
  pub interval : interval_at ahead start ≡ Some end
  pub after : start ≤ span.start
  pub before : span.end ≤ end

-- so much of a file is settled by the spans from the base on: they lead from the base to the end, and from the first place
-- to the last of each interval; and each span after the end lies in an interval
pub record Covers (spans : List Extent) (base : ℕ) (covered : Covered) : Type 0 where
  pub apart : AreApart spans
  pub reached : IsLed spans base covered.end
  pub settled : (start end : ℕ) → interval_at covered.ahead start ≡ Some end → (covered.end < start) × (start < end) × IsLed spans start end
  pub disjoint : (start end next last : ℕ) → interval_at covered.ahead start ≡ Some end → interval_at covered.ahead next ≡ Some last → start < next → end < next
  pub held : (span : Extent) → Contains spans span → span.start < span.end → covered.end ≤ span.start → Holds covered.ahead span

-- what holds of any intervals, also if spans overlap that settle them
pub record IsInRange (covered : Covered) : Type 0 where
  pub end : IsPlace covered.end
  pub intervals : (start end : ℕ) → interval_at covered.ahead start ≡ Some end → (start < end) × IsPlace end

-- with one span more, which is one of those before or apart from all of them
pub record AddsSpan (old : Covered) (span : Extent) (new : Covered) : Type 0 where
  pub covers : (spans : List Extent) (base : ℕ) → All (AreEqualOrApart span) spans → Covers spans base old → Covers (spans ++ span ∷ []) base new
  pub no_nearer : old.end ≤ new.end

-- no interval begins at the place, and others stay
pub record Cuts (old new : List (ℕ × ℕ)) (place : ℕ) : Type 0 where
  pub gone : interval_at new place ≡ None
  pub others : (other : ℕ) → other ≢ place → interval_at new other ≡ interval_at old other

-- what is settled from the start to the end is joined to the interval that begins at the end
pub record Joins (old new : List (ℕ × ℕ)) (start end : ℕ) : Type 0 where
  pub here : interval_at new start ≡ Some (unwrap_or (interval_at old end) end)
  pub gone : interval_at new end ≡ None
  pub others : (other : ℕ) → other ≢ start → other ≢ end → interval_at new other ≡ interval_at old other

-- the last interval that does not begin after the place, or none
abbrev pub IsLastBefore : List (ℕ × ℕ) → ℕ → Option (ℕ × ℕ) → Type 0
IsLastBefore ahead place None = (start : ℕ) → start ≤ place → interval_at ahead start ≡ None
IsLastBefore ahead place (Some interval) = (interval_at ahead interval.0 ≡ Some interval.1) × (interval.0 ≤ place) × ((start : ℕ) → start ≤ place → interval.0 < start → interval_at ahead start ≡ None)
