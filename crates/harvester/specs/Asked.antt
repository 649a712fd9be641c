-- What asking the tail for its key gave, when the length had fallen (Filebeat reference, file identity).
use Rattle.std.specs.Prelude.{◌≡◌, ◌≢◌, ℕ, Bool, true, false, List, [], Option, Some, Result, Ok, Err, IfOk}
use Rattle.file_identity.specs.Answers.{with_numbers}
use Rattle.file_identity.specs.Asking.{IsAsking, IsCutAsking, given_key}
use Rattle.file_identity.specs.Reading.{Adds}
use Rattle.outside.specs.declared.history.Look.{Look}
use Rattle.outside.specs.Files.{File}
use Rattle.outside.specs.Tails.{TailHistory}
use Rattle.harvester.specs.declared.turn.Turn.{Turn}
use Rattle.harvester.specs.declared.turn_error.TurnError.{TurnError}
use Rattle.harvester.specs.declared.turn_error.TurnError.TheVariants.{ReadFault, NoMemory}
use Rattle.harvester.specs.declared.harvester.Harvester.{Harvester}
use Rattle.harvester.specs.HasTold.{HasTold}
use Rattle.harvester.specs.Held.{Held}
use Rattle.harvester.specs.History.{History}
use Rattle.harvester.specs.Turned.{IsAskedIn, after_asking}

-- whether it is the key with which the harvester was opened; a fault cut them, and out of memory there were none
abbrev pub IsGivenKey : Held → File → List Look → Result Bool TurnError → Type 0
IsGivenKey held file looks (Ok true) = IsAsking held.identity looks × (given_key held.input held.identity held.begin.path file looks ≡ Some held.begin.key)
IsGivenKey held file looks (Ok false) = IsAsking held.identity looks × (given_key held.input held.identity held.begin.path file looks ≢ Some held.begin.key)
IsGivenKey held file looks (Err ReadFault) = IsCutAsking held.identity looks
IsGivenKey held file looks (Err NoMemory) = looks ≡ []

pub record WasAsked (held : Held) (numbers : Option (ℕ × ℕ)) (told : TailHistory) (result : Result Bool TurnError) (after : Option TailHistory) : Type 0 where
  pub looks : List Look
  pub added : Adds told looks after
  pub gave : IsGivenKey held (with_numbers numbers told.file) looks result

-- the history by that turn
abbrev pub after_result : Result Turn TurnError → History → History
after_result (Ok turn) history = after_asking turn history
after_result (Err error) history = history

pub record HasAsked {T : Type 0} (numbers : T → Option (ℕ × ℕ)) (told : T → Option TailHistory) (history : History) (result : Result Turn TurnError) (new : Harvester T) : Type 0 where
  pub has_told : HasTold numbers told (after_result result history) new
  pub asked_in : IfOk result (IsAskedIn history.present.epoch)
