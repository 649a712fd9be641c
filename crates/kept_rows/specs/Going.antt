-- What may happen next (this project's profile): the folder's list goes on, tails are closed and others opened, further
-- scans are made, talks grow, links are finished, and the account reports more. No scan is under way.
use Rattle.std.specs.Prelude.{◌≡◌, ◌≢◌, ℕ, ◌≤◌, List, [], ◌∷◌, ◌++◌, length, Option, Some, None, IfSome}
use Rattle.std.specs.List.{AllByRecursion}
use Rattle.file_looks.specs.Going.{GoesOn}
use Rattle.outside.specs.declared.history.Look.{Look}
use Rattle.outside.specs.Folders.{Event}
use Rattle.kept_rows.specs.Account.{AccountedEvent, EpochAccount, FollowedTail, Place, Reading, SlotAccount, slot_at}
use Rattle.kept_rows.specs.Acknowledged.{WiresGoOn}
use Rattle.kept_rows.specs.Run.{Run, Scan}
use Rattle.kept_rows.specs.Trace.{Trace, looks_of}

-- ---- the account

-- an event gets its place once
abbrev pub PlaceGoesOn : Option Place → Option Place → Type 0
PlaceGoesOn None now = Unit {0}
PlaceGoesOn (Some place) now = now ≡ Some place

abbrev pub ToldGoesOn : List AccountedEvent → List AccountedEvent → Type 0
ToldGoesOn [] now = Unit {0}
ToldGoesOn (one ∷ before) [] = ⊥
ToldGoesOn (one ∷ before) (same ∷ now) = (same.event ≡ one.event) × PlaceGoesOn one.place same.place × ToldGoesOn before now

-- more is reported of the epoch
pub record EpochGoesOn (before now : EpochAccount) : Type 0 where
  pub same_epoch : now.epoch ≡ before.epoch
  pub same_start : now.start ≡ before.start
  pub told : ToldGoesOn before.told now.told

abbrev pub EpochsGoOn : (EpochAccount → EpochAccount → Type 0) → List EpochAccount → List EpochAccount → Type 0
EpochsGoOn On [] now = Unit {0}
EpochsGoOn On (epoch ∷ before) [] = ⊥
EpochsGoOn On (epoch ∷ before) (grown ∷ now) = On epoch grown × EpochsGoOn On before now

pub record SlotGoesOn (before now : SlotAccount) : Type 0 where
  pub same_slot : now.following.slot ≡ before.following.slot
  pub same_key : now.following.key ≡ before.following.key
  pub epochs : EpochsGoOn EpochGoesOn before.epochs now.epochs

-- more is reported; a slot may be begun between others
pub record GrownSlot (before : SlotAccount) (account : List SlotAccount) (slot : ℕ) : Type 0 where
  pub now : SlotAccount
  pub is : slot_at slot account ≡ Some now
  pub on : SlotGoesOn before now

abbrev pub AccountGoesOn : List SlotAccount → List SlotAccount → Type 0
AccountGoesOn before now = (slot : ℕ) (one : SlotAccount) → slot_at slot before ≡ Some one → GrownSlot one now slot

-- ---- what is read

abbrev pub ReadingsGoOn : List Reading → List Reading → Type 0
ReadingsGoOn [] now = Unit {0}
ReadingsGoOn (reading ∷ before) [] = ⊥
ReadingsGoOn (reading ∷ before) (same ∷ now) =
    (same.opening ≡ reading.opening) × GoesOn reading.segment same.segment × ReadingsGoOn before now

-- more is read of the same life
pub record EpochReadsOn (before now : EpochAccount) : Type 0 where
  pub goes_on : EpochGoesOn before now
  pub same_life : now.life ≡ before.life
  pub readings : ReadingsGoOn before.readings now.readings

-- a tail that lost its key follows its file no further
pub record TailGoesOn (before now : FollowedTail) : Type 0 where
  pub same_opening : now.opening ≡ before.opening
  pub lost : before.beyond ≢ [] → (now.beyond ≢ []) × (now.looks ≡ before.looks)

abbrev pub TailsGoOn : List FollowedTail → List FollowedTail → Type 0
TailsGoOn [] now = Unit {0}
TailsGoOn (tail ∷ before) [] = ⊥
TailsGoOn (tail ∷ before) (grown ∷ now) = TailGoesOn tail grown × TailsGoOn before now

pub record SlotReadsOn (before now : SlotAccount) : Type 0 where
  pub same_slot : now.following.slot ≡ before.following.slot
  pub same_key : now.following.key ≡ before.following.key
  pub same_number : now.number ≡ before.number
  pub tails : TailsGoOn before.following.tails now.following.tails
  pub epochs : EpochsGoOn EpochReadsOn before.epochs now.epochs

pub record ReadOnSlot (before : SlotAccount) (account : List SlotAccount) (slot : ℕ) : Type 0 where
  pub now : SlotAccount
  pub is : slot_at slot account ≡ Some now
  pub on : SlotReadsOn before now

abbrev pub AccountReadsOn : List SlotAccount → List SlotAccount → Type 0
AccountReadsOn before now = (slot : ℕ) (one : SlotAccount) → slot_at slot before ≡ Some one → ReadOnSlot one now slot

-- ---- a file that is followed no further

-- nothing more is reported of it
pub record EpochRests (before now : EpochAccount) : Type 0 where
  pub goes_on : EpochGoesOn before now
  pub as_many : length now.told ≡ length before.told
  pub same_life : now.life ≡ before.life
  pub same_readings : now.readings ≡ before.readings

-- more of what was reported of it may be acknowledged
pub record SlotRests (before now : SlotAccount) : Type 0 where
  pub same_key : now.following.key ≡ before.following.key
  pub same_scan : now.following.known_from ≡ before.following.known_from
  pub same_number : now.number ≡ before.number
  pub same_tails : now.following.tails ≡ before.following.tails
  pub same_moment : now.changed ≡ before.changed
  pub epochs : EpochsGoOn EpochRests before.epochs now.epochs
  pub same_epochs : length now.epochs ≡ length before.epochs

-- ---- what is shown

-- a tail reports more looks, and is found as before once it is closed
pub record TraceGoesOn (before now : Trace) : Type 0 where
  pub same_files : now.files ≡ before.files
  pub same_begin : now.began ≡ before.began
  pub more_events : List Event
  pub events : now.events ≡ before.events ++ more_events
  pub tails : (opening : ℕ) (looks : List Look) → looks_of before opening ≡ Some looks → (more : List Look) × (looks_of now opening ≡ Some (looks ++ more))
  pub more_moments : List ℕ
  pub moments : now.moments ≡ before.moments ++ more_moments
  pub wires : WiresGoOn before.wires now.wires

-- a scan whose listings and openings are from this place of the folder's list on
pub record IsMadeFrom (place : ℕ) (scan : Scan) : Type 0 where
  pub listed : AllByRecursion (λ listing. place ≤ listing) scan.listings
  pub asked : AllByRecursion (λ asking. IfSome asking.opening (λ opening. place ≤ opening)) scan.askings

pub record RunGoesOn (before now : Run) : Type 0 where
  pub same_settings : now.settings ≡ before.settings
  pub same_once : now.once ≡ before.once
  pub same_opening : now.opening ≡ before.opening
  pub trace : TraceGoesOn before.trace now.trace
  pub more_scans : List Scan
  pub scans : now.scans ≡ before.scans ++ more_scans
  -- their listings, and the openings for their entries, come after what was done before
  pub made_later : AllByRecursion (IsMadeFrom (length before.trace.events)) more_scans
