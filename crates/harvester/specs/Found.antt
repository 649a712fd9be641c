-- What one look at the length of a harvester's tail gave, with the read after it (Filebeat reference, filestream input; this
-- project's profile).
use Rattle.std.specs.Prelude.{◌≡◌, ℕ, ◌<◌, ◌≤◌, List, [], ◌∷◌, ◌++◌, length, Option, Some, Result, Ok, Err, IfSome}
use Rattle.file_looks.specs.EndLook.{HasEndLook}
use Rattle.outside.specs.declared.history.Look.{Look}
use Rattle.outside.specs.declared.history.Question.TheVariants.{Length, ReadAt}
use Rattle.outside.specs.Tails.{TailHistory}
use Rattle.harvester.specs.declared.harvester.Harvester.{Harvester}
use Rattle.harvester.specs.declared.look.Found.{Found}
use Rattle.harvester.specs.declared.look.Found.TheVariants.{Less, More, End}
use Rattle.harvester.specs.declared.stage.Stage.{Stage as ReaderStage}
use Rattle.harvester.specs.declared.stage.Stage.TheVariants.{Asking, Reading}
use Rattle.harvester.specs.declared.turn_error.TurnError.{TurnError}
use Rattle.harvester.specs.HasTold.{HasTold}
use Rattle.harvester.specs.History.{Asks, History, Reads, Stage, read_to, with_read, with_stage}
use Rattle.harvester.specs.Looked.{IsLookedAt}

-- the state of the file then
abbrev pub stage_after : Result Found TurnError → Stage
stage_after (Ok Less) = Asks
stage_after (Ok More) = Reads
stage_after (Ok End) = Reads
stage_after (Err error) = Reads

abbrev pub stage_found : Found → ReaderStage
stage_found Less = Asking
stage_found More = Reading
stage_found End = Reading

-- the bytes that were read, of which there are at most this many
abbrev pub GaveBytes : ℕ → Result Found TurnError → List ℕ → Type 0
GaveBytes most (Ok Less) bytes = bytes ≡ []
GaveBytes most (Ok More) bytes = (0 < length bytes) × (length bytes ≤ most)
GaveBytes most (Ok End) bytes = bytes ≡ []
GaveBytes most (Err error) bytes = bytes ≡ []

-- the last segment of the looks found the file's end
pub record FoundEnd (numbers : Option (ℕ × ℕ)) (history : History) (told : TailHistory) : Type 0 where
  pub looked : IsLookedAt numbers history told
  pub end_look : HasEndLook looked.last (read_to history.present)

-- the tail reported two more looks: the length was not below the place, and the read at the place gave nothing
pub record LooksAtEnd (place : ℕ) (told : TailHistory) (after : Option TailHistory) : Type 0 where
  pub asked : Look
  pub read : Look
  pub asks : asked.question ≡ Length
  pub not_below : place ≤ asked.sight.length
  pub gives_nothing : read.question ≡ ReadAt place 0
  pub kept : after ≡ Some (record told { looks = told.looks ++ asked ∷ read ∷ [] })

-- if the tail's looks are known, these found the end
pub record IsAtEnd {T : Type 0} (numbers : T → Option (ℕ × ℕ)) (told : T → Option TailHistory) (before after : History) (old new : Harvester T) : Type 0 where
  pub looks : IfSome (told old.tail) (λ earlier. LooksAtEnd (read_to before.present) earlier (told new.tail))
  pub found : IfSome (told new.tail) (FoundEnd (numbers new.tail) after)

pub record HasLooked {T : Type 0} (numbers : T → Option (ℕ × ℕ)) (told : T → Option TailHistory) (most now : ℕ) (history : History) (old : Harvester T) (result : Result Found TurnError) (new : Harvester T) : Type 0 where
  pub bytes : List ℕ
  pub gave : GaveBytes most result bytes
  pub has_told : HasTold numbers told (with_stage (stage_after result) (with_read now bytes history)) new
  pub at_end : result ≡ Ok End → IsAtEnd numbers told history (with_read now bytes history) old new
