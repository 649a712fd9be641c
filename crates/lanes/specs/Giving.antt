-- What a turn of a harvester gives to be handed on (this project's profile): an event that is to be sent as its parcel; one
-- that a rule dropped as its settlement; a new life as its epoch's announcement; and, if the file is to be forgotten, its
-- end as a forgetting.
use Rattle.std.specs.Prelude.{◌≡◌, ◌⊎◌, ◌<◌, ℕ, List, [], ◌∷◌, Option, true, false}
use Rattle.outside.specs.Tails.{TailHistory}
use Rattle.settle_box.specs.Notes.{IsPostable}
use Rattle.wire_base.specs.Ranges.{IsNote, IsParcel, IsPlace}
use Rattle.wire_base.specs.declared.note.Cause.TheVariants.{Dropped}
use Rattle.wire_base.specs.declared.note.Note.{Note}
use Rattle.wire_base.specs.declared.note.Note.TheVariants.{Begin, Announce, Settle, Rename, Seen, Forget}
use Rattle.wire_base.specs.declared.numbers.Epoch.{Epoch}
use Rattle.wire_base.specs.declared.numbers.TheConstants.{MAX_PLACE}
use Rattle.wire_base.specs.declared.parcel.Parcel.{Parcel}
use Rattle.harvester.specs.declared.harvester.Harvester.{Harvester}
use Rattle.harvester.specs.declared.turn.Turn.{Turn}
use Rattle.harvester.specs.declared.turn.Turn.TheVariants.{Issued, Passed, AtEnd, NewLife}
use Rattle.harvester.specs.HasTold.{HasTold, begin_of}
use Rattle.harvester.specs.History.{History, told_to}
use Rattle.lanes.specs.declared.given.Given.{Given}
use Rattle.lanes.specs.declared.given.Given.TheVariants as given

-- what is to be put, and what is to be posted
abbrev pub parcels_in : Given → List Parcel
parcels_in (given.Parcel parcel) = parcel ∷ []
parcels_in (given.Note note) = []
parcels_in given.Nothing = []

abbrev pub notes_in : Given → List Note
notes_in (given.Parcel parcel) = []
notes_in (given.Note note) = note ∷ []
notes_in given.Nothing = []

-- how many spans were reported by it
abbrev pub spans_in_note : Note → ℕ
spans_in_note (Begin slot key path epoch base changed) = 0
spans_in_note (Announce slot epoch) = 0
spans_in_note (Settle slot epoch span cause) = 1
spans_in_note (Rename slot scan path) = 0
spans_in_note (Seen slot changed) = 0
spans_in_note (Forget slot epoch end) = 0

abbrev pub spans_of : Given → ℕ
spans_of (given.Parcel parcel) = 1
spans_of (given.Note note) = spans_in_note note
spans_of given.Nothing = 0

-- it may be handed on
abbrev pub IsInRange : Given → Type 0
IsInRange (given.Parcel parcel) = IsParcel parcel
IsInRange (given.Note note) = IsPostable note × IsNote note
IsInRange given.Nothing = Unit {0}

-- the epoch of a harvester, by whatever it reported
abbrev pub IsEpochOf : {T : Type 0} → (T → Option (ℕ × ℕ)) → (T → Option TailHistory) → Harvester T → Epoch → Type 0
IsEpochOf numbers told harvester epoch = (history : History) → HasTold numbers told history harvester → epoch.0 ≡ history.present.epoch

-- the file is to be forgotten, and is reported up to this place
pub record GivesForget {T : Type 0} (numbers : T → Option (ℕ × ℕ)) (told : T → Option TailHistory) (harvester : Harvester T) (what : Given) : Type 0 where
  pub epoch : Epoch
  pub end : ℕ
  pub is : what ≡ given.Note (Forget (begin_of harvester).slot epoch end)
  pub in_epoch : IsEpochOf numbers told harvester epoch
  pub forgets : (history : History) → HasTold numbers told history harvester → history.forgets ≡ true
  pub told_to_end : (history : History) → HasTold numbers told history harvester → end ≡ told_to history.present
  pub within : IsPlace end

-- the file is not to be forgotten, or no file can have this place
pub record GivesNone {T : Type 0} (numbers : T → Option (ℕ × ℕ)) (told : T → Option TailHistory) (harvester : Harvester T) (what : Given) : Type 0 where
  pub is : what ≡ given.Nothing
  pub why : (history : History) → HasTold numbers told history harvester → (history.forgets ≡ false) ⊎ (MAX_PLACE < told_to history.present)

-- the settlement of a span that a rule dropped, in the harvester's epoch
abbrev pub Gives : {T : Type 0} → (T → Option (ℕ × ℕ)) → (T → Option TailHistory) → Harvester T → Turn → Given → Type 0
Gives numbers told harvester (Issued parcel) what = what ≡ given.Parcel parcel
Gives numbers told harvester (Passed span rule) what =
    (epoch : Epoch) × (what ≡ given.Note (Settle (begin_of harvester).slot epoch span (Dropped rule))) × IsEpochOf numbers told harvester epoch
Gives numbers told harvester (NewLife epoch) what = what ≡ given.Note (Announce (begin_of harvester).slot epoch)
Gives numbers told harvester AtEnd what = GivesForget numbers told harvester what ⊎ GivesNone numbers told harvester what
Gives numbers told harvester turn what = what ≡ given.Nothing
