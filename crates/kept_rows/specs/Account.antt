-- The account of a run (this project's profile of Filebeat's registry): for each slot how its file was followed, and for
-- each epoch of it what was read and what was reported, with the place at which a peer acknowledged each event that was
-- shipped. It is one account for the whole run: of all rows, of all moments and of all talks.
use Rattle.std.specs.Prelude.{ℕ, ◌==◌, List, [], ◌∷◌, map, flat_map, Option, Some, None, if◌then◌else◌}
use Rattle.std.specs.List.{filter_map}
use Rattle.std.specs.Option.{option_and_then}
use Rattle.file_looks.specs.Segment.{Segment, segments_of}
use Rattle.outside.specs.declared.history.Look.{Look}
use Rattle.told_events.specs.Told.{ToldEvent}
use Rattle.wire_base.specs.Extent.{Extent}

-- where a payload stands: the number of its wire, of the connection among those of the wire in this run, and of the payload
-- among what that connection's talk acknowledges
pub record Place : Type 0 where
  pub wire : ℕ
  pub connection : ℕ
  pub number : ℕ

pub record AccountedEvent : Type 0 where
  pub event : ToldEvent
  -- the number, in its epoch, of the reading that read its last byte
  pub reading : ℕ
  -- the place at which it was acknowledged, once it was
  pub place : Option Place

-- a segment of the looks of the tail that was opened there
pub record Reading : Type 0 where
  pub opening : ℕ
  pub segment : Segment

pub record EpochAccount : Type 0 where
  pub epoch : ℕ
  -- the place from which its events are reported
  pub start : ℕ
  -- the number of the life of which they are
  pub life : ℕ
  pub readings : List Reading
  -- the places at which an event may be flushed
  pub licences : List ℕ
  pub told : List AccountedEvent

-- a tail that was opened to follow the file from this place on; what it reported up to where its file was found to have another
-- key, and from there on
pub record FollowedTail : Type 0 where
  pub opening : ℕ
  pub place : ℕ
  pub looks : List Look
  pub beyond : List Look

pub record Following : Type 0 where
  pub slot : ℕ
  pub input : ℕ
  pub key : List ℕ
  -- the epoch and the place with which it was begun
  pub epoch : ℕ
  pub base : ℕ
  -- the number of the scan from which on the key was known, and of the one after which it was gone
  pub known_from : ℕ
  pub gone_after : Option ℕ
  pub tails : List FollowedTail

pub record SlotAccount : Type 0 where
  pub following : Following
  -- the number of its file, if one was opened
  pub number : ℕ
  -- the greatest moment of change that was noted
  pub changed : ℕ
  pub epochs : List EpochAccount

-- ---- what is in it

abbrev pub slot_of : SlotAccount → ℕ
slot_of account = account.following.slot

abbrev pub key_of : SlotAccount → List ℕ
key_of account = account.following.key

abbrev pub slot_at : ℕ → List SlotAccount → Option SlotAccount
slot_at slot [] = None
slot_at slot (account ∷ others) = if slot_of account == slot then Some account else slot_at slot others

abbrev pub epoch_at : ℕ → List EpochAccount → Option EpochAccount
epoch_at epoch [] = None
epoch_at epoch (account ∷ others) = if account.epoch == epoch then Some account else epoch_at epoch others

-- the epoch of the slot of this number
abbrev pub epoch_of : List SlotAccount → ℕ → ℕ → Option EpochAccount
epoch_of account slot epoch = option_and_then (λ one. epoch_at epoch one.epochs) (slot_at slot account)

abbrev pub events_of : List AccountedEvent → List ToldEvent
events_of told = map (λ one. one.event) told

abbrev pub spans_of : List AccountedEvent → List Extent
spans_of told = map (λ one. one.event.span) told

abbrev pub readings_of : FollowedTail → List Reading
readings_of tail = map (λ segment. record { opening = tail.opening; segment = segment }) (segments_of tail.place tail.looks)

-- all places at which events were acknowledged
abbrev pub places_in_epoch : EpochAccount → List Place
places_in_epoch epoch = filter_map (λ one. one.place) epoch.told

abbrev pub places_in : List SlotAccount → List Place
places_in account = flat_map (λ one. flat_map places_in_epoch one.epochs) account
