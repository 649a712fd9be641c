-- Kept rows (this project's profile of Filebeat's registry): the offset is the place from which the row's epoch is reported, or
-- ends the last of the first reported events of that epoch, each of which was dropped by its rule or is acknowledged at the
-- place that the account gives it. A row of a key that was not begun is as the run found it.
use Rattle.std.specs.Prelude.{◌≡◌, ◌≢◌, ◌⊎◌, ℕ, ◌≤◌, List, ◌++◌, Option, Some, None}
use Rattle.std.specs.List.{AllByRecursion}
use Rattle.ship_core.specs.CoveredEnd.{last_end}
use Rattle.ship_core.specs.Rows.{find}
use Rattle.told_events.specs.Fate.{DroppedBy, Fate, ShippedAs}
use Rattle.wire_base.specs.declared.row.Row.{Row}
use Rattle.kept_rows.specs.Account.{AccountedEvent, EpochAccount, Place, SlotAccount, epoch_at, key_of, slot_at, spans_of}
use Rattle.kept_rows.specs.Acknowledged.{IsAcknowledgedAt}
use Rattle.kept_rows.specs.Trace.{WireTold}

-- it was dropped, or its payload is at its place
abbrev pub SettlesAs : List WireTold → Fate → Option Place → Type 0
SettlesAs wires (DroppedBy rule) place = Unit {0}
SettlesAs wires (ShippedAs payload) None = ⊥
SettlesAs wires (ShippedAs payload) (Some place) = IsAcknowledgedAt wires payload place

abbrev pub IsSettled : List WireTold → AccountedEvent → Type 0
IsSettled wires one = SettlesAs wires one.event.fate one.place

-- the offset closes a front of what was reported in the epoch, each event of it settled
pub record ClosesSettled (wires : List WireTold) (epoch : EpochAccount) (offset : ℕ) : Type 0 where
  pub front : List AccountedEvent
  pub rest : List AccountedEvent
  pub told_is : epoch.told ≡ front ++ rest
  pub each : AllByRecursion (IsSettled wires) front
  pub ends : last_end epoch.start (spans_of front) ≡ offset

-- by the account of a slot of its key: in an image a newer one may not have its row yet
pub record IsToldRow (account : List SlotAccount) (wires : List WireTold) (row : Row) : Type 0 where
  pub slot : ℕ
  pub one : SlotAccount
  pub slot_is : slot_at slot account ≡ Some one
  pub key_is : key_of one ≡ row.key
  pub epoch : EpochAccount
  pub epoch_is : epoch_at row.epoch.0 one.epochs ≡ Some epoch
  pub closes : ClosesSettled wires epoch row.offset

-- no slot of the key is newer
abbrev pub IsNewestSlot : List SlotAccount → List ℕ → ℕ → Type 0
IsNewestSlot account key slot = (other : ℕ) (one : SlotAccount) → slot_at other account ≡ Some one → key_of one ≡ key → other ≤ slot

-- by the account of the newest slot of its key
pub record IsNewestRow (account : List SlotAccount) (wires : List WireTold) (row : Row) : Type 0 where
  pub told : IsToldRow account wires row
  pub newest : IsNewestSlot account row.key told.slot

-- the row is where it was as the registry was opened
pub record StandsAsOpened (opening : List Row) (row : Row) : Type 0 where
  pub opened : Row
  pub found : find row.key opening ≡ Some opened
  pub same_epoch : row.epoch.0 ≡ opened.epoch.0
  pub same_offset : row.offset ≡ opened.offset

-- no slot was begun for the key
abbrev pub IsUnbegun : List SlotAccount → List ℕ → Type 0
IsUnbegun account key = AllByRecursion (λ one. key_of one ≢ key) account

-- of the rows that a run ends with
abbrev pub IsKept : List SlotAccount → List Row → List WireTold → Row → Type 0
IsKept account opening wires row = IsNewestRow account wires row ⊎ (IsUnbegun account row.key × StandsAsOpened opening row)

-- of the rows that a crash leaves, or that a run leaves whose disk or sink failed, or that found no memory
abbrev pub IsKeptInImage : List SlotAccount → List Row → List WireTold → Row → Type 0
IsKeptInImage account opening wires row = IsToldRow account wires row ⊎ StandsAsOpened opening row
