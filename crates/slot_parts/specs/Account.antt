-- The account of a slot whose file tails followed one by one (this project's profile): its epochs are the runs of parts with
-- one number, and each part is a reading of its epoch.
use Rattle.std.specs.Prelude.{◌≡◌, ◌≢◌, ◌⊎◌, ℕ, suc, ◌+◌, ◌<◌, ◌≤◌, None, List, [], ◌∷◌, ◌++◌, map, flat_map, Contains, Option, nat_le, if◌then◌else◌}
use Rattle.std.specs.List.{AllByRecursion}
use Rattle.std.specs.Option.{option_map_or}
use Rattle.file_looks.specs.Looks.{AreLooks}
use Rattle.file_looks.specs.Reading.{ReadOn}
use Rattle.file_looks.specs.Segment.{segments_of, steps_in}
use Rattle.kept_rows.specs.Account.{AccountedEvent, EpochAccount, FollowedTail, Following, Place, Reading, SlotAccount, readings_of}
use Rattle.kept_rows.specs.Epochs.{WasListedWith, first_sight_of, life_read}
use Rattle.kept_rows.specs.Followed.{Start}
use Rattle.kept_rows.specs.Run.{Run, Scan}
use Rattle.kept_rows.specs.Scans.{IsBefore, IsFirstPath, ShowsFile}
use Rattle.outside.specs.Files.{File}
use Rattle.outside.specs.declared.history.Sight.{Sight}
use Rattle.told_events.specs.Told.{ToldEvent}
use Rattle.slot_parts.specs.Parts.{EpochParts, Part, epochs_of, licences_in, told_to}

abbrev pub reading_of : Part → Reading
reading_of part = record { opening = part.opening; segment = part.segment }

-- each with the number of its part in the epoch
abbrev pub events_from : (ToldEvent → Option Place) → ℕ → List Part → List AccountedEvent
events_from placed number [] = []
events_from placed number (part ∷ parts) =
    map (λ event. record { event = event; reading = number; place = placed event }) part.told ++ events_from placed (suc number) parts

-- the life that was read last, or that was there at the first look
abbrev pub life_by : List Part → ℕ
life_by parts = life_read (option_map_or (λ (sight : Sight). sight.life) (first_sight_of (map reading_of parts)) 0) (map reading_of parts)

abbrev pub epoch_account : (ℕ → ToldEvent → Option Place) → EpochParts → EpochAccount
epoch_account placed one = record {
  epoch = one.epoch;
  start = one.start;
  life = life_by one.parts;
  readings = map reading_of one.parts;
  licences = licences_in one.parts;
  told = events_from (placed one.epoch) 0 one.parts;
}

abbrev pub epoch_accounts : (ℕ → ToldEvent → Option Place) → ℕ → ℕ → List Part → List EpochAccount
epoch_accounts placed epoch base parts = map (epoch_account placed) (epochs_of epoch base parts)

-- ---- what the run shows

-- the path is the first under which a scan showed the file with its key: the last scan before the opening that showed it, or
-- a later one
pub record IsShownAs (run : Run) (one : SlotAccount) (opening : ℕ) (path : List ℕ) : Type 0 where
  pub before : List Scan
  pub scan : Scan
  pub behind : List Scan
  pub scans_are : run.scans ≡ before ++ scan ∷ behind
  pub first : IsFirstPath run scan one.following.key one.number path
  pub none_nearer : AllByRecursion (λ other. (path : List ℕ) → ShowsFile run other one.following.key one.number path → ¬ (IsBefore opening other)) behind

-- by such a path, and the clock gave the moment
pub record IsShownBy (run : Run) (one : SlotAccount) (opening : ℕ) (event : ToldEvent) : Type 0 where
  pub path : IsShownAs run one opening event.path
  pub given : Contains run.trace.moments event.now

abbrev pub IsShownPart : Run → SlotAccount → Part → Type 0
IsShownPart run one part = AllByRecursion (IsShownBy run one part.opening) part.told

-- of what was there as it was opened the tail reports such looks, and its reads that count are at the place up to which it read
pub record IsLookedTail (file : File) (tail : FollowedTail) : Type 0 where
  pub begun : Sight
  pub looks : AreLooks file begun tail.looks
  pub on : AllByRecursion (λ segment. ReadOn (steps_in segment)) (segments_of tail.place tail.looks)

-- the parts are what the segments of the tails reported, in order
abbrev pub ArePartsOf : Following → List Part → Type 0
ArePartsOf following parts = map reading_of parts ≡ flat_map readings_of following.tails

-- ---- why each part goes on where it does

-- of a file that was reported up to this place of this epoch and then listed with this size
abbrev pub goes_on : ℕ → ℕ → ℕ → Start
goes_on epoch place size =
    if nat_le place size then record { epoch = epoch; base = place }
    else record { epoch = epoch + 1; base = 0 }

-- its tail was opened when the file was listed with no lesser size than the place from which it goes on
pub record StaysIn (run : Run) (key : List ℕ) (epoch place : ℕ) (part : Part) : Type 0 where
  pub same_epoch : part.epoch ≡ epoch
  pub from_there : part.segment.place ≡ place
  pub no_fall : part.segment.fall ≡ None
  pub listed : WasListedWith run key part.opening (λ size. place ≤ size)

-- its tail was opened when the file was listed with a lesser size
pub record OpensNext (run : Run) (key : List ℕ) (place : ℕ) (part : Part) : Type 0 where
  pub no_fall : part.segment.fall ≡ None
  pub listed : WasListedWith run key part.opening (λ size. size < place)

-- the same, or the length fell in the tail that reported the part before
pub record RisesIn (run : Run) (key : List ℕ) (epoch place : ℕ) (part : Part) : Type 0 where
  pub next_epoch : part.epoch ≡ epoch + 1
  pub from_the_first_byte : part.segment.place ≡ 0
  pub why : (part.segment.fall ≢ None) ⊎ OpensNext run key place part

abbrev pub FollowsOn : Run → List ℕ → ℕ → ℕ → Part → Type 0
FollowsOn run key epoch place part = StaysIn run key epoch place part ⊎ RisesIn run key epoch place part

-- the parts of a slot, if the file is reported up to this place of this epoch
abbrev pub FollowOn : Run → List ℕ → ℕ → ℕ → List Part → Type 0
FollowOn run key epoch place [] = Unit {0}
FollowOn run key epoch place (part ∷ parts) = FollowsOn run key epoch place part × FollowOn run key part.epoch (told_to part) parts

-- the epoch and the place up to which the file is reported after these parts
abbrev pub epoch_after : ℕ → List Part → ℕ
epoch_after epoch [] = epoch
epoch_after epoch (part ∷ parts) = epoch_after part.epoch parts

abbrev pub place_after : ℕ → List Part → ℕ
place_after place [] = place
place_after place (part ∷ parts) = place_after (told_to part) parts

-- ---- the account

abbrev pub slot_account : (ℕ → ToldEvent → Option Place) → Following → ℕ → ℕ → List Part → SlotAccount
slot_account placed following number changed parts =
    record { following = following; number = number; changed = changed; epochs = epoch_accounts placed following.epoch following.base parts }
