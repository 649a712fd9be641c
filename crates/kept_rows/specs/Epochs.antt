-- The epochs of a slot (this project's profile): an epoch rises by one when a look at the length is below the position
-- and the file still has its key, and when the file is opened again though its listed size is below the place from which it
-- would go on. It rises at nothing else. Its life is the one of which its looks last read bytes, or that was there at its
-- first look if they read none.
use Rattle.std.specs.Prelude.{◌≡◌, ◌≢◌, ◌⊎◌, ℕ, suc, ◌+◌, ◌<◌, ◌≤◌, nat_lt, List, [], ◌∷◌, ◌++◌, flat_map, Option, Some, None}
use Rattle.std.specs.List.{AllByRecursion, filter}
use Rattle.file_looks.specs.Reading.{last_life}
use Rattle.file_looks.specs.Segment.{first_of, looks_in, steps_in}
use Rattle.outside.specs.declared.history.Shown.{Shown}
use Rattle.outside.specs.declared.history.Sight.{Sight}
use Rattle.ship_core.specs.CoveredEnd.{last_end}
use Rattle.kept_rows.specs.Account.{AccountedEvent, EpochAccount, Reading, SlotAccount, readings_of, spans_of}
use Rattle.kept_rows.specs.Run.{Run, Scan}
use Rattle.kept_rows.specs.Scans.{IsBefore, IsFirstPath, ShowsFileAt, ShowsKey}

-- ---- their numbers

abbrev pub AreNumberedFrom : ℕ → List EpochAccount → Type 0
AreNumberedFrom before [] = Unit {0}
AreNumberedFrom before (epoch ∷ later) = (epoch.epoch ≡ before + 1) × (epoch.start ≡ 0) × AreNumberedFrom (before + 1) later

-- the first is that with which the slot was begun, and each later one is reported from the file's first byte on
pub record AreNumbered (one : SlotAccount) : Type 0 where
  pub first : EpochAccount
  pub later : List EpochAccount
  pub epochs_are : one.epochs ≡ first ∷ later
  pub first_epoch : first.epoch ≡ one.following.epoch
  pub first_start : first.start ≡ one.following.base
  pub numbered : AreNumberedFrom one.following.epoch later

-- ---- why they rise

-- the last scan before the opening that showed the file listed it, by its first path, with such a size
pub record WasListedWith (run : Run) (key : List ℕ) (opening : ℕ) (IsSize : ℕ → Type 0) : Type 0 where
  pub front : List Scan
  pub scan : Scan
  pub behind : List Scan
  pub scans_are : run.scans ≡ front ++ scan ∷ behind
  pub made_before : IsBefore opening scan
  pub none_nearer : AllByRecursion (λ other. ShowsKey run other key → ¬ (IsBefore opening other)) behind
  pub number : ℕ
  pub shown : Shown
  pub shows : ShowsFileAt run scan key number shown
  pub first : IsFirstPath run scan key number shown.entry.path
  pub size : IsSize shown.entry.size

-- the place from which the file would have gone on
abbrev pub next_place : EpochAccount → ℕ
next_place epoch = last_end epoch.start (spans_of epoch.told)

-- the first reading of the next epoch begins with the fall of the length, or the file was opened again
abbrev pub RisesBy : Run → List ℕ → EpochAccount → Reading → Type 0
RisesBy run key before reading = (reading.segment.fall ≢ None) ⊎ WasListedWith run key reading.opening (λ size. size < next_place before)

pub record Rises (run : Run) (key : List ℕ) (before next : EpochAccount) : Type 0 where
  pub first : Reading
  pub others : List Reading
  pub readings_are : next.readings ≡ first ∷ others
  pub from_the_first_byte : first.segment.place ≡ 0
  pub why : RisesBy run key before first

abbrev pub EachRises : Run → List ℕ → List EpochAccount → Type 0
EachRises run key [] = Unit {0}
EachRises run key (last ∷ []) = Unit {0}
EachRises run key (before ∷ next ∷ epochs) = Rises run key before next × EachRises run key (next ∷ epochs)

-- the events that were reported by the readings before the one of this number
abbrev pub told_before : ℕ → List AccountedEvent → List AccountedEvent
told_before number told = filter (λ one. nat_lt one.reading number) told

-- readings report in their order
abbrev pub AreReadInOrder : ℕ → List AccountedEvent → Type 0
AreReadInOrder least [] = Unit {0}
AreReadInOrder least (one ∷ told) = (least ≤ one.reading) × AreReadInOrder one.reading told

-- within an epoch a tail goes on from where the readings before it reported, which is not above the size with which the file was
-- listed last; a reading that begins with a fall is the first of its epoch
pub record GoesOnFrom (run : Run) (key : List ℕ) (epoch : EpochAccount) (number : ℕ) (reading : Reading) : Type 0 where
  pub no_fall : reading.segment.fall ≡ None
  pub told_place : reading.segment.place ≡ last_end epoch.start (spans_of (told_before number epoch.told))
  pub listed : WasListedWith run key reading.opening (λ size. reading.segment.place ≤ size)

abbrev pub GoOnFrom : Run → List ℕ → EpochAccount → ℕ → List Reading → Type 0
GoOnFrom run key epoch number [] = Unit {0}
GoOnFrom run key epoch number (reading ∷ readings) = GoesOnFrom run key epoch number reading × GoOnFrom run key epoch (suc number) readings

abbrev pub GoOnWithin : Run → List ℕ → EpochAccount → List Reading → Type 0
GoOnWithin run key epoch [] = Unit {0}
GoOnWithin run key epoch (first ∷ others) =
    ((first.segment.fall ≢ None) ⊎ GoesOnFrom run key epoch 0 first) × GoOnFrom run key epoch 1 others

-- ---- their lives

abbrev pub first_sight_of : List Reading → Option Sight
first_sight_of readings = first_of (flat_map (λ reading. looks_in reading.segment) readings)

-- the life that is last read if this one was there at the first look
abbrev pub life_read : ℕ → List Reading → ℕ
life_read first readings = last_life first (flat_map (λ reading. steps_in reading.segment) readings)

abbrev pub IsLifeOf : EpochAccount → Type 0
IsLifeOf epoch = (sight : Sight) → first_sight_of epoch.readings ≡ Some sight → epoch.life ≡ life_read sight.life epoch.readings

-- ---- together

pub record AreEpochs (run : Run) (one : SlotAccount) : Type 0 where
  pub numbered : AreNumbered one
  pub rises : EachRises run one.following.key one.epochs
  pub go_on : AllByRecursion (λ epoch. GoOnWithin run one.following.key epoch epoch.readings) one.epochs
  pub in_order : AllByRecursion (λ epoch. AreReadInOrder 0 epoch.told) one.epochs
  pub lives : AllByRecursion IsLifeOf one.epochs
  -- what is read in them is what the tails read, in order
  pub together : flat_map (λ epoch. epoch.readings) one.epochs ≡ flat_map readings_of one.following.tails
