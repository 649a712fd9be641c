-- What is taken of the bytes that were received (Lumberjack v2; this project's profile).
use Rattle.std.specs.Prelude.{◌≡◌, ℕ, ◌+◌, ◌-◌, ◌<◌, ◌≤◌, List, [], ◌++◌, length, drop, Option, Some, None}
use Rattle.lumber_frame.specs.declared.frame.Frame.{Frame}
use Rattle.lumber_frame.specs.Frame.{BeginsWithFrame}
use Rattle.lumber_frame.specs.Reading.{IsShort}
use Rattle.lumber_answers.specs.HandingOn.{Told}
use Rattle.lumber_answers.specs.Laying.{WritesSome}
use Rattle.lumber_server.specs.Received.{IsOwed, Standing, StopsIn, behind_frame}
use Rattle.lumber_server.specs.Ends.{up_to_end}
use Rattle.lumber_server.specs.Standing.{GoesOn, state_of}
use Rattle.lumber_server.specs.Written.{answer_of, lines_of_frame}
use Rattle.lumber_server.specs.declared.transfer.Taken.{Taken}
use Rattle.lumber_server.specs.declared.transfer.Taken.TheVariants.{Left, Stop}
use Rattle.lumber_server.specs.declared.transfer.Transfer.{Transfer}

pub record TakesFrame (frame : Frame) (used : ℕ) (old new : Transfer) (before after : Option (List ℕ)) : Type 0 where
  pub reading : new.reading ≡ behind_frame old.reading frame
  pub lines : WritesSome before (old.outgoing.lines.items ++ lines_of_frame frame) new.outgoing.lines.items after
  pub answers : new.outgoing.answers.items ≡ old.outgoing.answers.items ++ answer_of old.reading frame
  pub passed : new.passed ≡ up_to_end (old.passed + used)

-- the bytes do not begin with the frame that is owed
pub record BeginsWithNoneOwed (here : Standing) (bytes : List ℕ) : Type 0 where
  pub none : (frame : Frame) (used : ℕ) → BeginsWithFrame bytes frame used → ¬ (IsOwed here frame)

pub record TakesNext (before after : Told) (old new : Transfer) (bytes : List ℕ) (used : ℕ) : Type 0 where
  pub some : 0 < used
  pub within : used ≤ length bytes
  pub goes_on : GoesOn before after (state_of old bytes) (state_of new (drop used bytes))

pub record TakesNone (before after : Told) (old new : Transfer) (bytes : List ℕ) : Type 0 where
  pub goes_on : GoesOn before after (state_of old bytes) (state_of new bytes)
  pub none_owed : BeginsWithNoneOwed new.reading bytes

abbrev pub IsTakenNext : Told → Told → Transfer → Transfer → List ℕ → Option ℕ → Type 0
IsTakenNext before after old new bytes None = TakesNone before after old new bytes
IsTakenNext before after old new bytes (Some used) = TakesNext before after old new bytes used

-- all whole first frames were taken, and this many bytes are left
pub record TakesFrames (before after : Told) (old new : Transfer) (bytes : List ℕ) (left : ℕ) : Type 0 where
  pub within : left ≤ length bytes
  pub goes_on : GoesOn before after (state_of old bytes) (state_of new (drop (length bytes - left) bytes))
  pub none_owed : BeginsWithNoneOwed new.reading (drop (length bytes - left) bytes)

-- and all that was laid was handed on
pub record HandsAllOn (before after : Told) (old new : Transfer) (bytes : List ℕ) (left : ℕ) : Type 0 where
  pub taken : TakesFrames before after old new bytes left
  pub no_lines : new.outgoing.lines.items ≡ []
  pub no_answers : new.outgoing.answers.items ≡ []

-- the rest is no whole frame and no fault yet
pub record LeavesShort (before after : Told) (old new : Transfer) (bytes : List ℕ) (left : ℕ) : Type 0 where
  pub handed : HandsAllOn before after old new bytes left
  pub short : IsShort (drop (length bytes - left) bytes)

-- reading stops in the rest
pub record StopsBehind (before after : Told) (old new : Transfer) (bytes : List ℕ) (place : ℕ) : Type 0 where
  pub left : ℕ
  pub handed : HandsAllOn before after old new bytes left
  pub within : ℕ
  pub stop : StopsIn new.reading (drop (length bytes - left) bytes) within
  pub place_is : place ≡ up_to_end (new.passed + within)

abbrev pub IsTakenIn : Told → Told → Transfer → Transfer → List ℕ → Taken → Type 0
IsTakenIn before after old new bytes (Left left) = LeavesShort before after old new bytes left
IsTakenIn before after old new bytes (Stop place) = StopsBehind before after old new bytes place
