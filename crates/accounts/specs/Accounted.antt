-- How a tail that followed a file is in the account of its slot (this project's profile): with the looks as far as the file kept its
-- key, and with what its harvester reported.
use Rattle.std.specs.Prelude.{ℕ, List, [], Option, None}
use Rattle.harvester.specs.History.{History}
use Rattle.kept_rows.specs.Account.{AccountedEvent, FollowedTail, Place}
use Rattle.outside.specs.declared.history.Look.{Look}
use Rattle.slot_parts.specs.Tails.{ToldTail}
use Rattle.told_events.specs.Fate.{DroppedBy, Fate, ShippedAs}
use Rattle.told_events.specs.Told.{ToldEvent}
use Rattle.wire_base.specs.Extent.{Extent}
use Rattle.wire_base.specs.declared.numbers.Slot.{Slot}
use Rattle.wire_base.specs.declared.parcel.Parcel.{Parcel}
use Rattle.accounts.specs.Opened.{Opened}
use Rattle.accounts.specs.Parted.{kept_looks, lost_looks}

-- where its parcel was acknowledged
abbrev pub place_by : (Parcel → Option Place) → Slot → ℕ → Extent → Fate → Option Place
place_by placed slot epoch span (DroppedBy rule) = None
place_by placed slot epoch span (ShippedAs payload) =
    placed (record { slot = slot; epoch = record { 0 = epoch }; span = span; payload = payload })

abbrev pub place_in : (Parcel → Option Place) → Slot → ℕ → ToldEvent → Option Place
place_in placed slot epoch event = place_by placed slot epoch event.span event.fate

-- an event as the first reading of its epoch reported it
abbrev pub accounted : (Parcel → Option Place) → Slot → ℕ → ToldEvent → AccountedEvent
accounted placed slot epoch event = record { event = event; reading = 0; place = place_in placed slot epoch event }

-- the tail, by all that it reported
abbrev pub followed_tail : Opened → List Look → History → FollowedTail
followed_tail opened looks history =
    record { opening = opened.opening; place = opened.begin.base; looks = kept_looks history looks; beyond = lost_looks history looks }

-- those by which it was asked for its key come first
abbrev pub told_tail : Opened → List Look → History → ToldTail
told_tail opened looks history = record { tail = followed_tail opened looks history; history = record history { before = [] } }
