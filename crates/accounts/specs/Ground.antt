-- Whence a parcel and a note come (this project's profile): a parcel is of an event that is shipped, and a note is of an event that a
-- rule dropped, of an epoch, or of an event that was acknowledged.
use Rattle.std.specs.Prelude.{◌≡◌, ◌⊎◌, ℕ, List, Contains}
use Rattle.batch_worker.specs.Held.{note_of}
use Rattle.harvester.specs.History.{Telling}
use Rattle.told_events.specs.Fate.{DroppedBy, ShippedAs, cause_of_fate}
use Rattle.told_events.specs.Told.{ToldEvent}
use Rattle.wire_base.specs.declared.note.Note.{Note}
use Rattle.wire_base.specs.declared.note.Note.TheVariants.{Announce, Settle}
use Rattle.wire_base.specs.declared.parcel.Parcel.{Parcel}
use Rattle.slot_parts.specs.Tellings.{tellings_in}
use Rattle.accounts.specs.Turned.{Turned}

-- one of the epochs of one of the files
pub record IsEpochOf (files : List Turned) (turned : Turned) (telling : Telling) : Type 0 where
  pub of_files : Contains files turned
  pub of_file : Contains (tellings_in turned.history) telling

pub record IsParcelOf (files : List Turned) (parcel : Parcel) : Type 0 where
  pub turned : Turned
  pub telling : Telling
  pub epoch : IsEpochOf files turned telling
  pub event : ToldEvent
  pub told : Contains telling.told event
  pub slot_is : parcel.slot ≡ turned.slot
  pub epoch_is : parcel.epoch.0 ≡ telling.epoch
  pub span_is : parcel.span ≡ event.span
  pub fate_is : event.fate ≡ ShippedAs parcel.payload

pub record IsSettlementOf (turned : Turned) (telling : Telling) (note : Note) : Type 0 where
  pub event : ToldEvent
  pub told : Contains telling.told event
  pub rule : ℕ
  pub fate_is : event.fate ≡ DroppedBy rule
  pub is : note ≡ Settle turned.slot (record { 0 = telling.epoch }) event.span (cause_of_fate (DroppedBy rule))

abbrev pub IsNoteBy : Turned → Telling → Note → Type 0
IsNoteBy turned telling note = (note ≡ Announce turned.slot (record { 0 = telling.epoch })) ⊎ IsSettlementOf turned telling note

pub record IsNoteOf (files : List Turned) (note : Note) : Type 0 where
  pub turned : Turned
  pub telling : Telling
  pub epoch : IsEpochOf files turned telling
  pub is : IsNoteBy turned telling note

-- the settlement of a parcel among these, which were acknowledged
pub record IsAcknowledgement (files : List Turned) (acknowledged : List Parcel) (note : Note) : Type 0 where
  pub parcel : Parcel
  pub among : Contains acknowledged parcel
  pub of : IsParcelOf files parcel
  pub is : note ≡ note_of parcel

-- what may be collected
abbrev pub HasGround : List Turned → List Parcel → Note → Type 0
HasGround files acknowledged note = IsNoteOf files note ⊎ IsAcknowledgement files acknowledged note
