-- The numbers that a run reports (this project's profile): how many events of its account a peer acknowledged, and how many a rule
-- dropped. Each number stays at 2^64 - 1. A place counts if the payload of its event is acknowledged there, and once;
-- and each payload that a talk of the run acknowledges counts.
use Rattle.std.specs.Prelude.{◌≡◌, ◌⊎◌, ℕ, ◌+◌, ◌-◌, ◌^◌, min, Bool, true, false, IsTrue, List, Contains, None, Option, Some, count_by, is_some, length}
use Rattle.std.specs.List.{AllByRecursion, flat_map}
use Rattle.kept_rows.specs.Account.{AccountedEvent, EpochAccount, Place, SlotAccount, places_in}
use Rattle.kept_rows.specs.Acknowledged.{IsAcknowledgedAt}
use Rattle.kept_rows.specs.Scans.{AreDistinct}
use Rattle.kept_rows.specs.Trace.{WireTold}
use Rattle.told_events.specs.Fate.{DroppedBy, Fate, ShippedAs}

-- ---- the events

abbrev pub told_in_epoch : EpochAccount → List AccountedEvent
told_in_epoch epoch = epoch.told

abbrev pub told_in_slot : SlotAccount → List AccountedEvent
told_in_slot one = flat_map told_in_epoch one.epochs

-- slot by slot, and epoch by epoch
abbrev pub all_events : List SlotAccount → List AccountedEvent
all_events account = flat_map told_in_slot account

-- ---- how many there are

-- it has a place
abbrev pub is_acknowledged : AccountedEvent → Bool
is_acknowledged one = is_some one.place

abbrev pub is_by_rule : Fate → Bool
is_by_rule (DroppedBy rule) = true
is_by_rule (ShippedAs payload) = false

abbrev pub is_dropped : AccountedEvent → Bool
is_dropped one = is_by_rule one.event.fate

abbrev pub acknowledged_count : List SlotAccount → ℕ
acknowledged_count account = count_by is_acknowledged (all_events account)

abbrev pub dropped_count : List SlotAccount → ℕ
dropped_count account = count_by is_dropped (all_events account)

-- ---- the places

-- a dropped event has none; at that of a shipped one its payload is acknowledged
abbrev pub IsPlacedAs : List WireTold → Fate → Option Place → Type 0
IsPlacedAs wires (DroppedBy rule) place = place ≡ None
IsPlacedAs wires (ShippedAs payload) None = Unit {0}
IsPlacedAs wires (ShippedAs payload) (Some place) = IsAcknowledgedAt wires payload place

-- no two events have one, and each payload that a talk acknowledges is that of an event: so events with places and acknowledged
-- payloads are one to one
pub record ArePlacedIn (account : List SlotAccount) (wires : List WireTold) : Type 0 where
  pub each : AllByRecursion (λ one. IsPlacedAs wires one.event.fate one.place) (all_events account)
  pub apart : AreDistinct (places_in account)
  pub all : (payload : List ℕ) (place : Place) → IsAcknowledgedAt wires payload place → Contains (places_in account) place

-- ---- the numbers

pub record AreNumbersOf (account : List SlotAccount) (shipped dropped : ℕ) : Type 0 where
  pub shipped_are : shipped ≡ min (acknowledged_count account) (2 ^ 64 - 1)
  pub dropped_are : dropped ≡ min (dropped_count account) (2 ^ 64 - 1)

abbrev pub IsAcknowledgedOrDropped : AccountedEvent → Type 0
IsAcknowledgedOrDropped one = IsTrue (is_acknowledged one) ⊎ IsTrue (is_dropped one)

-- of a run that is done: each event was acknowledged or dropped, and none of them is counted twice
pub record AreAllCounted (account : List SlotAccount) : Type 0 where
  pub each : AllByRecursion IsAcknowledgedOrDropped (all_events account)
  pub together : acknowledged_count account + dropped_count account ≡ length (all_events account)
