-- Which looks one turn of a harvester adds to those of its tail (Filebeat reference, filestream input; this project's
-- profile). If the file is read, a turn asks the length at most once. If that is not below the place, it reads there,
-- once; if it is, it asks for the key, and again in a later turn while that hit a fault.
use Rattle.std.specs.Prelude.{◌≡◌, ◌⊎◌, ℕ, ◌<◌, ◌≤◌, List, [], ◌∷◌, Option, Some, None, Result, Ok, Err, true, false}
use Rattle.file_identity.specs.Answers.{with_numbers}
use Rattle.file_identity.specs.Asking.{IsPartOfAsking}
use Rattle.file_identity.specs.Reading.{Adds}
use Rattle.outside.specs.declared.history.Look.{Look}
use Rattle.outside.specs.declared.history.Question.TheVariants.{Length, ReadAt}
use Rattle.outside.specs.Files.{File}
use Rattle.outside.specs.Tails.{TailHistory}
use Rattle.harvester.specs.declared.harvester.Harvester.{Harvester}
use Rattle.harvester.specs.declared.look.Found.{Found}
use Rattle.harvester.specs.declared.look.Found.TheVariants.{Less, More, End}
use Rattle.harvester.specs.declared.stage.Stage.{Stage}
use Rattle.harvester.specs.declared.stage.Stage.TheVariants.{Reading, Asking, Ended, Changed, Over}
use Rattle.harvester.specs.declared.turn.Turn.{Turn}
use Rattle.harvester.specs.declared.turn.Turn.TheVariants as turn
use Rattle.harvester.specs.declared.turn_error.TurnError.{TurnError}
use Rattle.harvester.specs.Asked.{IsGivenKey}
use Rattle.harvester.specs.Held.{Held}

-- one asking for the key, and what it gave, by the answer; or a part of one that failed or found no memory
abbrev pub AskForKey : Held → Turn → File → List Look → Type 0
AskForKey held (turn.NewLife epoch) file looks = IsGivenKey held file looks (Ok true)
AskForKey held turn.EpochsOut file looks = IsGivenKey held file looks (Ok true)
AskForKey held turn.Changed file looks = IsGivenKey held file looks (Ok false)
AskForKey held turn.ReadFault file looks = IsPartOfAsking held.identity looks
AskForKey held turn.NoMemory file looks = IsPartOfAsking held.identity looks
AskForKey held answer file looks = ⊥

-- the file has the key with which it was opened
abbrev pub HasGivenKey : Turn → Type 0
HasGivenKey (turn.NewLife epoch) = Unit {0}
HasGivenKey turn.EpochsOut = Unit {0}
HasGivenKey answer = ⊥

-- it failed, or found no memory
abbrev pub IsRefused : Turn → Type 0
IsRefused turn.ReadFault = Unit {0}
IsRefused turn.NoMemory = Unit {0}
IsRefused answer = ⊥

-- or it reported a span
abbrev pub TellsOrFails : Turn → Type 0
TellsOrFails (turn.Issued parcel) = Unit {0}
TellsOrFails (turn.Passed span rule) = Unit {0}
TellsOrFails answer = IsRefused answer

-- one read at the place, or none if it failed or found no memory
abbrev pub IsReadAt : Turn → ℕ → List Look → Type 0
IsReadAt answer place [] = IsRefused answer
IsReadAt answer place (look ∷ []) = (count : ℕ) × (look.question ≡ ReadAt place count)
IsReadAt answer place (look ∷ other ∷ looks) = ⊥

-- the length is below the place, and the key is asked; or it is not, and the file is read
abbrev pub StandBehindLength : Held → File → Turn → ℕ → List Look → Type 0
StandBehindLength held file answer length looks =
    ((length < held.position) × AskForKey held answer file looks) ⊎ ((held.position ≤ length) × IsReadAt answer held.position looks)

-- of a turn that reads on; any other reports what was read, failed, or found no memory
abbrev pub AreOfReading : Held → Turn → File → List Look → Type 0
AreOfReading held answer file [] = TellsOrFails answer
AreOfReading held answer file (look ∷ looks) = (look.question ≡ Length) × StandBehindLength held file answer look.sight.length looks

-- by the state of the file as the turn began
abbrev pub AreOfTurn : Stage → Held → Turn → File → List Look → Type 0
AreOfTurn Reading held answer file looks = AreOfReading held answer file looks
AreOfTurn Asking held answer file looks = AskForKey held answer file looks
AreOfTurn Ended held answer file looks = looks ≡ []
AreOfTurn Changed held answer file looks = looks ≡ []
AreOfTurn Over held answer file looks = looks ≡ []

-- some such looks at the file were reported in addition
pub record AddsSome (Are : File → List Look → Type 0) (numbers : Option (ℕ × ℕ)) (told : TailHistory) (after : Option TailHistory) : Type 0 where
  pub looks : List Look
  pub added : Adds told looks after
  pub are : Are (with_numbers numbers told.file) looks

-- a tail whose looks are not known goes on this way
abbrev pub LooksOn : (File → List Look → Type 0) → Option (ℕ × ℕ) → Option TailHistory → Option TailHistory → Type 0
LooksOn Are numbers None after = after ≡ None
LooksOn Are numbers (Some told) after = AddsSome Are numbers told after

abbrev pub LooksInTurn : {T : Type 0} → (T → Option (ℕ × ℕ)) → (T → Option TailHistory) → Harvester T → Turn → Harvester T → Type 0
LooksInTurn numbers told old answer new =
    LooksOn (AreOfTurn old.reader.stage old.reader answer) (numbers old.tail) (told old.tail) (told new.tail)

-- ---- of a look

-- only the length, and it is below the place
pub record IsBelow (place : ℕ) (looks : List Look) : Type 0 where
  pub asked : Look
  pub are : looks ≡ asked ∷ []
  pub asks : asked.question ≡ Length
  pub below : asked.sight.length < place

-- the length, which is not, and a read at the place
pub record HasRead (place : ℕ) (looks : List Look) : Type 0 where
  pub asked : Look
  pub read : Look
  pub count : ℕ
  pub are : looks ≡ asked ∷ read ∷ []
  pub asks : asked.question ≡ Length
  pub reached : place ≤ asked.sight.length
  pub reads : read.question ≡ ReadAt place count

-- only the length, which is not below the place
pub record HasReached (place : ℕ) (looks : List Look) : Type 0 where
  pub asked : Look
  pub are : looks ≡ asked ∷ []
  pub asks : asked.question ≡ Length
  pub reached : place ≤ asked.sight.length

abbrev pub AreOfLook : Result Found TurnError → ℕ → File → List Look → Type 0
AreOfLook (Ok Less) place file looks = IsBelow place looks
AreOfLook (Ok More) place file looks = HasRead place looks
AreOfLook (Ok End) place file looks = HasRead place looks
AreOfLook (Err error) place file looks = (looks ≡ []) ⊎ HasReached place looks
