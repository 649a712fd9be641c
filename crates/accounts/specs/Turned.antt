-- What a file gave so far that a harvester turns (this project's profile): a parcel for each event that is shipped, a
-- settlement for each that a rule dropped, and an announcement for each epoch but the first. Each is given once, in the order in
-- which it is reported.
use Rattle.std.specs.Prelude.{ℕ, ◌+◌, List, [], ◌∷◌, ◌++◌, length}
use Rattle.std.specs.List.{flat_map}
use Rattle.harvester.specs.History.{History, Telling}
use Rattle.told_events.specs.Fate.{DroppedBy, Fate, ShippedAs, cause_of_fate}
use Rattle.told_events.specs.Told.{ToldEvent}
use Rattle.wire_base.specs.Extent.{Extent}
use Rattle.wire_base.specs.declared.note.Note.{Note}
use Rattle.wire_base.specs.declared.note.Note.TheVariants.{Announce, Settle}
use Rattle.wire_base.specs.declared.numbers.Slot.{Slot}
use Rattle.wire_base.specs.declared.parcel.Parcel.{Parcel}
use Rattle.slot_parts.specs.Tellings.{tellings_in}

-- a file of this slot that was turned so
pub record Turned : Type 0 where
  pub slot : Slot
  pub history : History

-- ---- parcels

abbrev pub parcels_by : Slot → ℕ → Extent → Fate → List Parcel
parcels_by slot epoch span (DroppedBy rule) = []
parcels_by slot epoch span (ShippedAs payload) =
    record { slot = slot; epoch = record { 0 = epoch }; span = span; payload = payload } ∷ []

abbrev pub parcels_of : Slot → ℕ → List ToldEvent → List Parcel
parcels_of slot epoch told = flat_map (λ one. parcels_by slot epoch one.span one.fate) told

abbrev pub parcels_in : Slot → Telling → List Parcel
parcels_in slot telling = parcels_of slot telling.epoch telling.told

abbrev pub parcels_told : Turned → List Parcel
parcels_told turned = flat_map (parcels_in turned.slot) (tellings_in turned.history)

-- ---- notes

abbrev pub settlements_by : Slot → ℕ → Extent → Fate → List Note
settlements_by slot epoch span (DroppedBy rule) = Settle slot (record { 0 = epoch }) span (cause_of_fate (DroppedBy rule)) ∷ []
settlements_by slot epoch span (ShippedAs payload) = []

abbrev pub settlements_of : Slot → ℕ → List ToldEvent → List Note
settlements_of slot epoch told = flat_map (λ one. settlements_by slot epoch one.span one.fate) told

abbrev pub settlements_in : Slot → Telling → List Note
settlements_in slot telling = settlements_of slot telling.epoch telling.told

-- of an epoch after the first
abbrev pub announced_in : Slot → Telling → List Note
announced_in slot telling = Announce slot (record { 0 = telling.epoch }) ∷ settlements_in slot telling

abbrev pub notes_in : Slot → List Telling → List Note
notes_in slot [] = []
notes_in slot (first ∷ later) = settlements_in slot first ++ flat_map (announced_in slot) later

abbrev pub notes_told : Turned → List Note
notes_told turned = notes_in turned.slot (tellings_in turned.history)

-- ---- spans

-- how many events were reported
abbrev pub events_in : List Telling → ℕ
events_in [] = 0
events_in (telling ∷ tellings) = length telling.told + events_in tellings

abbrev pub spans_told : Turned → ℕ
spans_told turned = events_in (tellings_in turned.history)

abbrev pub spans_in : List Turned → ℕ
spans_in [] = 0
spans_in (turned ∷ others) = spans_told turned + spans_in others
