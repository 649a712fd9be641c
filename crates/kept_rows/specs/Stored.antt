-- Rows that are stored as far as events are settled (this project's profile): no event that begins at a row's offset, in the row's epoch, is
-- settled. So a run that goes on from the row sends again only what was acknowledged after an event that was not.
use Rattle.std.specs.Prelude.{◌≡◌, ◌⊎◌, ℕ, List, Contains}
use Rattle.std.specs.List.{AllByRecursion}
use Rattle.told_events.specs.Fate.{cause_of_fate}
use Rattle.wire_base.specs.declared.note.Note.{Note}
use Rattle.wire_base.specs.declared.note.Note.TheVariants.{Settle}
use Rattle.wire_base.specs.declared.row.Row.{Row}
use Rattle.kept_rows.specs.Account.{AccountedEvent, EpochAccount, SlotAccount, slot_of}
use Rattle.kept_rows.specs.Kept.{IsSettled, IsToldRow, IsUnbegun}
use Rattle.kept_rows.specs.Trace.{WireTold}

-- it does not begin there, or is not settled
abbrev pub WaitsAt : List WireTold → ℕ → AccountedEvent → Type 0
WaitsAt wires offset one = one.event.span.start ≡ offset → ¬ (IsSettled wires one)

pub record IsStoredSoFar (account : List SlotAccount) (wires : List WireTold) (row : Row) : Type 0 where
  pub told : IsToldRow account wires row
  pub next : AllByRecursion (WaitsAt wires row.offset) told.epoch.told

-- of the rows with which a run ends that made its last steps
abbrev pub IsStored : List SlotAccount → List WireTold → Row → Type 0
IsStored account wires row = IsStoredSoFar account wires row ⊎ IsUnbegun account row.key

-- ---- by notes

-- the note that settles the event
abbrev pub settlement_of : SlotAccount → EpochAccount → AccountedEvent → Note
settlement_of one epoch event = Settle (record { 0 = slot_of one }) (record { 0 = epoch.epoch }) event.event.span (cause_of_fate event.event.fate)

-- each event that is settled is so by one of these notes
abbrev pub AreAllNoted : List Note → List WireTold → SlotAccount → EpochAccount → Type 0
AreAllNoted notes wires one epoch = AllByRecursion (λ event. IsSettled wires event → Contains notes (settlement_of one epoch event)) epoch.told

abbrev pub IsAllSettledBy : List Note → List WireTold → List SlotAccount → Type 0
IsAllSettledBy notes wires account = AllByRecursion (λ one. AllByRecursion (AreAllNoted notes wires one) one.epochs) account
