-- Only reported events are sent (this project's profile of Lumberjack v2): what was sent over a link is a front of windows whose
-- frames are payloads of reported events that are shipped, the frames of one link of different ones. No order is said between
-- files. The last payload may be cut; what was sent of it is the front of a reported event's.
use Rattle.std.specs.Prelude.{◌≡◌, ℕ, List, ◌++◌, flat_map, map, Contains, Option, Some, None}
use Rattle.std.specs.List.{AllByRecursion}
use Rattle.lumber_frame.specs.Talk.{out_bytes}
use Rattle.lumber_frame.specs.Window.{IsWindow, window_bytes}
use Rattle.told_events.specs.Fate.{ShippedAs}
use Rattle.wire_base.specs.declared.talk.Piece.{Piece}
use Rattle.kept_rows.specs.Account.{AccountedEvent, EpochAccount, SlotAccount, epoch_of}
use Rattle.kept_rows.specs.Acknowledged.{talks_of}
use Rattle.kept_rows.specs.Scans.{AreDistinct}
use Rattle.kept_rows.specs.Trace.{WireTold}

-- where an event is reported
pub record ToldAt : Type 0 where
  pub slot : ℕ
  pub epoch : ℕ
  pub start : ℕ

-- a frame: the event of which it is, and its payload
pub record Sending : Type 0 where
  pub of : ToldAt
  pub payload : List ℕ

-- the account has the event, and ships it as this payload
pub record IsShipped (account : List SlotAccount) (sending : Sending) : Type 0 where
  pub epoch : EpochAccount
  pub epoch_is : epoch_of account sending.of.slot sending.of.epoch ≡ Some epoch
  pub one : AccountedEvent
  pub told : Contains epoch.told one
  pub starts : one.event.span.start ≡ sending.of.start
  pub shipped : one.event.fate ≡ ShippedAs sending.payload

abbrev pub payloads_of : List Sending → List (List ℕ)
payloads_of window = map (λ sending. sending.payload) window

pub record SendsOnlyTold (account : List SlotAccount) (talk : List Piece) : Type 0 where
  pub windows : List (List Sending)
  pub are : AllByRecursion (λ window. IsWindow (payloads_of window)) windows
  pub shipped : AllByRecursion (λ window. AllByRecursion (IsShipped account) window) windows
  pub different : AreDistinct (flat_map (λ window. map (λ sending. sending.of) window) windows)
  pub left : List ℕ
  pub front : out_bytes talk ++ left ≡ flat_map (λ window. window_bytes (payloads_of window)) windows

-- so each talk of the run
abbrev pub IsSentOnly : List SlotAccount → Option (List Piece) → Type 0
IsSentOnly account None = Unit {0}
IsSentOnly account (Some talk) = SendsOnlyTold account talk

abbrev pub SendOnlyTold : List SlotAccount → List WireTold → Type 0
SendOnlyTold account wires = AllByRecursion (λ wire. AllByRecursion (IsSentOnly account) (talks_of wire)) wires
