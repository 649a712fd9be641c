-- What the looks of a harvester's tail have to do with its history (Filebeat reference, filestream input; this project's
-- profile): each epoch was read through one segment of the looks since the opening. After these come the looks from where
-- the length was below what was read and the key was not known, or was another; no asking among these gave it.
use Rattle.std.specs.Prelude.{◌≡◌, ℕ, ◌<◌, true, List, [], ◌∷◌, ◌++◌, Option, IfSome}
use Rattle.std.specs.List.{AllByRecursion}
use Rattle.file_identity.specs.Answers.{IsFingerprint, with_numbers}
use Rattle.file_identity.specs.AskedAgain.{AreCutAskings, HasOtherKey, IsRead, KeepsKey, SomeAskingGives, StillHasKey}
use Rattle.file_looks.specs.EndLook.{HasEndLook}
use Rattle.file_looks.specs.Reading.{ReadOn, bytes_read}
use Rattle.file_looks.specs.Segment.{Segment, read_to, segments_of, steps_in}
use Rattle.outside.specs.declared.history.Look.{Look}
use Rattle.outside.specs.declared.history.Question.TheVariants.{Length}
use Rattle.outside.specs.Files.{File}
use Rattle.outside.specs.Tails.{TailHistory}
use Rattle.told_events.specs.Licence.{IsLicensed, LieApart}
use Rattle.harvester.specs.History.{Changed, Ended, Asks, Over, Reads, HasBytes, History, Stage, Telling}
use Rattle.harvester.specs.History as history

-- an event of the epoch may be flushed at the place: the file's end was found and might be, or its timeout had passed
abbrev pub IsLicensedIn : History → Telling → Segment → ℕ → Type 0
IsLicensedIn h telling segment place = (life : List ℕ) → HasBytes telling.start telling.bytes life →
    IsLicensed h.rule.lines life telling.start segment (h.may_end ≡ true) (LieApart h.moments (history.timeout_in h)) place

-- the epoch was read through this segment
pub record IsReadBy (h : History) (file : File) (telling : Telling) (segment : Segment) : Type 0 where
  pub place : segment.place ≡ telling.start
  pub to : read_to segment ≡ history.read_to telling
  pub bytes : bytes_read file segment ≡ telling.bytes
  pub on : ReadOn (steps_in segment)
  pub kept_key : KeepsKey h.rule h.begin.key h.begin.path file segment
  pub licensed : AllByRecursion (IsLicensedIn h telling segment) telling.licences

abbrev pub AreReadBy : History → File → List Telling → List Segment → Type 0
AreReadBy h file [] [] = Unit {0}
AreReadBy h file [] (segment ∷ segments) = ⊥
AreReadBy h file (telling ∷ tellings) [] = ⊥
AreReadBy h file (telling ∷ tellings) (segment ∷ segments) = IsReadBy h file telling segment × AreReadBy h file tellings segments

-- the length was below what was read, and then the key was asked
pub record HasFallen (h : History) (looks : List Look) : Type 0 where
  pub fall : Look
  pub later : List Look
  pub looks_are : looks ≡ fall ∷ later
  pub asks : fall.question ≡ Length
  pub below : fall.sight.length < history.read_to h.present
  pub only_reads : AllByRecursion (λ look. IsRead look.question) later

-- and it was not known yet: a fault cut each asking, and none for a fingerprint gave the key
pub record IsUnanswered (h : History) (file : File) (looks : List Look) : Type 0 where
  pub fallen : HasFallen h looks
  pub cut : AreCutAskings h.rule.file_identity fallen.later
  pub unknown : IsFingerprint h.rule.file_identity → ¬ (SomeAskingGives h.rule h.begin.key h.begin.path file fallen.later)

-- and it was another: no asking gave the key
pub record HasChanged (h : History) (file : File) (looks : List Look) : Type 0 where
  pub fallen : HasFallen h looks
  pub other : HasOtherKey h.rule h.begin.key h.begin.path file fallen.later
  pub lost : ¬ (SomeAskingGives h.rule h.begin.key h.begin.path file fallen.later)

-- or the same, if no epoch is left
pub record IsOver (h : History) (file : File) (looks : List Look) : Type 0 where
  pub fallen : HasFallen h looks
  pub same : StillHasKey h.rule h.begin.key h.begin.path file fallen.later

abbrev pub StandBehind : History → File → Stage → List Look → Type 0
StandBehind h file Reads looks = looks ≡ []
StandBehind h file Asks looks = IsUnanswered h file looks
StandBehind h file Ended looks = looks ≡ []
StandBehind h file Changed looks = HasChanged h file looks
StandBehind h file Over looks = IsOver h file looks

pub record IsLookedAt (numbers : Option (ℕ × ℕ)) (h : History) (told : TailHistory) : Type 0 where
  pub since : List Look
  pub beyond : List Look
  pub looks_are : told.looks ≡ h.before ++ (since ++ beyond)
  pub front : List Segment
  pub last : Segment
  pub segments : segments_of h.begin.base since ≡ front ++ last ∷ []
  pub past : AreReadBy h (with_numbers numbers told.file) h.past front
  pub present : IsReadBy h (with_numbers numbers told.file) h.present last
  pub stand_behind : StandBehind h (with_numbers numbers told.file) h.stage beyond
  pub end_look : h.stage ≡ Ended → HasEndLook last (history.read_to h.present)

-- if the tail's looks are known
abbrev pub AreLookedAt : Option (ℕ × ℕ) → History → Option TailHistory → Type 0
AreLookedAt numbers h told = IfSome told (IsLookedAt numbers h)
