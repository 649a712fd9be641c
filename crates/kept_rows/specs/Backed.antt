-- Notes that are backed by an account (this project's profile): a Begin names the key, the epoch and the place with which
-- its slot was begun; an Announce names an epoch that the slot had, and a Forget the last one and the end of what was reported
-- of it; a Settle is of a reported event that its rule drops, or whose payload is acknowledged at the place that the account
-- gives it; no moment is above the greatest that was noted of the slot. A Rename says nothing of offsets.
use Rattle.std.specs.Prelude.{◌≡◌, ℕ, ◌<◌, ◌≤◌, List, [], ◌∷◌, ◌++◌, Contains, None, Some, IsSome}
use Rattle.std.specs.List.{AllByRecursion}
use Rattle.ship_core.specs.CoveredEnd.{Adjoin}
use Rattle.ship_core.specs.Rows.{IsInOrder, find}
use Rattle.ship_core.specs.RowOver.{row_over}
use Rattle.ship_core.specs.RowsOver.{row_for, slots_for}
use Rattle.told_events.specs.Fate.{cause_of_fate}
use Rattle.wire_base.specs.Extent.{Extent}
use Rattle.wire_base.specs.declared.note.Cause.{Cause}
use Rattle.wire_base.specs.declared.note.Note.{Note}
use Rattle.wire_base.specs.declared.note.Note.TheVariants.{Begin, Announce, Settle, Rename, Seen, Forget}
use Rattle.wire_base.specs.declared.row.Row.{Row}
use Rattle.kept_rows.specs.Account.{AccountedEvent, EpochAccount, SlotAccount, epoch_at, epoch_of, key_of, slot_at, slot_of, spans_of}
use Rattle.kept_rows.specs.Epochs.{AreNumbered, next_place}
use Rattle.kept_rows.specs.Kept.{IsSettled}
use Rattle.kept_rows.specs.Trace.{WireTold}

-- the slot was begun so
pub record BacksBegin (account : List SlotAccount) (slot : ℕ) (key : List ℕ) (epoch base : ℕ) : Type 0 where
  pub one : SlotAccount
  pub slot_is : slot_at slot account ≡ Some one
  pub key_is : one.following.key ≡ key
  pub epoch_is : one.following.epoch ≡ epoch
  pub base_is : one.following.base ≡ base

-- no moment that is noted of the slot is above its greatest
pub record BacksMoment (account : List SlotAccount) (slot moment : ℕ) : Type 0 where
  pub one : SlotAccount
  pub slot_is : slot_at slot account ≡ Some one
  pub moment_within : moment ≤ one.changed

-- the event of the span is reported in the epoch, is settled, and for this cause
pub record BacksSettle (account : List SlotAccount) (wires : List WireTold) (slot epoch : ℕ) (span : Extent) (cause : Cause) : Type 0 where
  pub told_in : EpochAccount
  pub epoch_is : epoch_of account slot epoch ≡ Some told_in
  pub one : AccountedEvent
  pub told : Contains told_in.told one
  pub span_is : one.event.span ≡ span
  pub cause_is : cause_of_fate one.event.fate ≡ cause
  pub settled : IsSettled wires one

-- the epoch is the slot's last, and the place is the end of what was reported of it
pub record BacksForget (account : List SlotAccount) (slot epoch end : ℕ) : Type 0 where
  pub one : SlotAccount
  pub slot_is : slot_at slot account ≡ Some one
  pub earlier : List EpochAccount
  pub last : EpochAccount
  pub epochs_are : one.epochs ≡ earlier ++ last ∷ []
  pub epoch_is : epoch_at epoch one.epochs ≡ Some last
  pub end_is : end ≡ next_place last

abbrev pub Backs : List SlotAccount → List WireTold → Note → Type 0
Backs account wires (Begin slot key path epoch base changed) =
    BacksBegin account slot.0 key epoch.0 base × BacksMoment account slot.0 changed.0
Backs account wires (Announce slot epoch) = IsSome (epoch_of account slot.0 epoch.0)
Backs account wires (Settle slot epoch span cause) = BacksSettle account wires slot.0 epoch.0 span cause
Backs account wires (Rename slot scan path) = Unit {0}
Backs account wires (Seen slot changed) = BacksMoment account slot.0 changed.0
Backs account wires (Forget slot epoch end) = BacksForget account slot.0 epoch.0 end

abbrev pub AreBacked : List SlotAccount → List WireTold → List Note → Type 0
AreBacked account wires notes = AllByRecursion (Backs account wires) notes

-- each slot's Begin is among the notes
abbrev pub AreBegun : List SlotAccount → List Note → Type 0
AreBegun account notes = AllByRecursion (λ one. Contains (slots_for (key_of one) notes) (slot_of one)) account

-- a slot whose key has a newer one has no row over the notes
abbrev pub OnlyTheNewestHaveRows : List SlotAccount → List Note → Type 0
OnlyTheNewestHaveRows account notes = (one newer : SlotAccount) → Contains account one → Contains account newer →
    key_of one ≡ key_of newer → slot_of one < slot_of newer → row_over (slot_of one) notes ≡ None

-- in each epoch the reported spans adjoin from its start on, and the epochs are numbered from the slot's first
pub record IsInOneRow (one : SlotAccount) : Type 0 where
  pub numbered : AreNumbered one
  pub adjoin : AllByRecursion (λ epoch. Adjoin epoch.start (spans_of epoch.told)) one.epochs

abbrev pub AreInRows : List SlotAccount → Type 0
AreInRows account = AllByRecursion IsInOneRow account

-- ---- rows over the first of the notes

-- for each key the row over the opening rows and some first ones of the notes, or none
pub record IsRowOverAFront (opening : List Row) (notes : List Note) (rows : List Row) (key : List ℕ) : Type 0 where
  pub front : List Note
  pub rest : List Note
  pub notes_are : notes ≡ front ++ rest
  pub is : find key rows ≡ row_for opening front key

-- what an image of an area may hold while a keeper stands for these notes
pub record AreRowsOverFronts (opening : List Row) (notes : List Note) (rows : List Row) : Type 0 where
  pub in_order : IsInOrder rows
  pub each : (key : List ℕ) → IsRowOverAFront opening notes rows key
