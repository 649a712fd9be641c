-- What one turn of a harvester did, by its answer (Filebeat reference, filestream input; this project's profile).
use Rattle.std.specs.Prelude.{◌≡◌, ◌⊎◌, ℕ, ◌<◌, ◌≤◌, Bool, true, List, [], length, Option, Some, None, Result, Ok, Err, IfSome, IsSome}
use Rattle.std.specs.List.{AllByRecursion}
use Rattle.multiline_core.specs.Gathering.{MayGoOn}
use Rattle.outside.specs.Tails.{TailHistory}
use Rattle.told_events.specs.Told.{ToldEvent}
use Rattle.wire_base.specs.declared.memory.NoMemory.{NoMemory}
use Rattle.harvester.specs.declared.harvester.Harvester.{Harvester}
use Rattle.harvester.specs.declared.turn.Turn.{Turn}
use Rattle.harvester.specs.declared.turn.Turn.TheVariants as turn
use Rattle.harvester.specs.declared.turn_error.TurnError.{TurnError}
use Rattle.harvester.specs.declared.turn_error.TurnError.TheVariants as error
use Rattle.harvester.specs.Found.{FoundEnd, LooksAtEnd}
use Rattle.harvester.specs.HasTold.{HasTold}
use Rattle.harvester.specs.History.{Asks, Changed, Ended, History, IsPast, Over, Reads, Stage, left_to_tell, read_to, with_epoch, with_events, with_licences, with_present, with_read, with_stage}
use Rattle.harvester.specs.Standing.{EndsLines, stage_behind_end, stage_of}
use Rattle.harvester.specs.Turned.{HasOneEvent, IsAskedIn, events_told}

-- the bytes that it read, the places at which it found that an event may be flushed, and the state of the file then
pub record Did : Type 0 where
  pub bytes : List ℕ
  pub licences : List ℕ
  pub stage : Stage

-- an event may be flushed at these places, and these were reported
abbrev pub with_told : List ℕ → List ToldEvent → History → History
with_told licences events history = with_present (with_events events (with_licences licences history.present)) history

-- at this moment; these events were reported, too
abbrev pub did_with : ℕ → List ToldEvent → Did → History → History
did_with now events did history = with_stage did.stage (with_told did.licences events (with_read now did.bytes history))

-- a new life begins an epoch; every other turn adds to the present one
abbrev pub after_did : ℕ → Turn → Did → History → History
after_did now (turn.NewLife epoch) did history = with_epoch history
after_did now answer did history = did_with now (events_told history.path now answer) did history

-- the complete lines after what was reported are the first ones of an event that may go on
abbrev pub NoneCloses : History → Type 0
NoneCloses history = MayGoOn history.rule.multiline (left_to_tell history)

-- and none waits for its timeout to pass
abbrev pub NoneDue : History → ℕ → Type 0
NoneDue history now = (left_to_tell history ≡ []) ⊎ (¬ (IsPast history now))

-- an event is flushed that waits with all lines of what was read, at the file's end or when its timeout has passed
pub record MayFlush (now : ℕ) (stage : Stage) (licences : List ℕ) (history : History) : Type 0 where
  pub why : (stage ≡ Ended) ⊎ IsPast history now
  pub none_closes : NoneCloses history
  pub end_lines : AllByRecursion (EndsLines history) licences

-- the file may be turned again
abbrev pub MayTurn : Stage → Type 0
MayTurn Reads = Unit {0}
MayTurn Asks = Unit {0}
MayTurn Ended = Unit {0}
MayTurn Changed = ⊥
MayTurn Over = ⊥

-- the file is read on or ended: no asking for its key is open
abbrev pub AsksNothing : Stage → Type 0
AsksNothing Reads = Unit {0}
AsksNothing Asks = ⊥
AsksNothing Ended = Unit {0}
AsksNothing Changed = ⊥
AsksNothing Over = ⊥

-- the looks of this turn found the end
abbrev pub FoundHere : {T : Type 0} → (T → Option TailHistory) → History → Harvester T → Harvester T → Type 0
FoundHere told before old new = IfSome (told old.tail) (λ earlier. LooksAtEnd (read_to before.present) earlier (told new.tail))

-- the file is ended where it was, or if the end may be found and the looks of this turn found it
abbrev pub EndsHere : {T : Type 0} → (T → Option TailHistory) → Bool → History → Harvester T → Harvester T → Type 0
EndsHere told may_end before old new = (before.stage ≡ Ended) ⊎ ((may_end ≡ true) × FoundHere told before old new)

-- the end was found by the looks of this turn: then no event closes, none is due, and the file is ended if it may be
pub record EndsNow {T : Type 0} (told : T → Option TailHistory) (now : ℕ) (may_end : Bool) (before : History) (did : Did) (after : History) (old new : Harvester T) : Type 0 where
  pub none_closes : NoneCloses after
  pub none_due : NoneDue after now
  pub ends : may_end ≡ true → did.stage ≡ Ended
  pub found : FoundHere told before old new

-- the moment of the last line that was gathered
abbrev pub last_line_of : {T : Type 0} → Harvester T → ℕ
last_line_of harvester = harvester.reader.events.last_line.0

-- an event waits for lines
abbrev pub IsWaiting : {T : Type 0} → Harvester T → Type 0
IsWaiting harvester = IsSome harvester.reader.events.grouper.gathered

-- the end was found by an earlier turn, or is now; if the file is ended, all complete lines are reported
pub record IsEnd {T : Type 0} (told : T → Option TailHistory) (now : ℕ) (may_end : Bool) (before : History) (did : Did) (after : History) (old new : Harvester T) : Type 0 where
  pub none_read : did.bytes ≡ []
  pub none_asked : AsksNothing did.stage
  pub all_told : did.stage ≡ Ended → left_to_tell after ≡ []
  pub none_waits : ¬ (IsWaiting new) → left_to_tell after ≡ []
  pub last_line : last_line_of new ≡ after.last_line
  pub which : (before.stage ≡ Ended) ⊎ EndsNow told now may_end before did after old new

-- no event was reported, and it was not out of memory
abbrev pub IsQuiet : Turn → Type 0
IsQuiet turn.More = Unit {0}
IsQuiet turn.AtEnd = Unit {0}
IsQuiet (turn.NewLife epoch) = Unit {0}
IsQuiet turn.Changed = Unit {0}
IsQuiet turn.EpochsOut = Unit {0}
IsQuiet answer = ⊥

-- when each answer comes; a fault is shown by the tail's count, and out of memory needs no cause. Which key the file had the
-- looks show: if it is read or asked on, has another key, or its last epoch is over
abbrev pub IsCaused : {T : Type 0} → (T → Option TailHistory) → ℕ → Bool → History → Did → History → Harvester T → Turn → Harvester T → Type 0
IsCaused told now may_end before did after old (turn.Issued parcel) new = MayTurn did.stage
IsCaused told now may_end before did after old (turn.Passed span rule) new = MayTurn did.stage
IsCaused told now may_end before did after old turn.More new = (0 < length did.bytes) × MayTurn did.stage × NoneCloses after × NoneDue after now
IsCaused told now may_end before did after old turn.AtEnd new = IsEnd told now may_end before did after old new
IsCaused told now may_end before did after old (turn.NewLife epoch) new = IsAskedIn before.present.epoch (turn.NewLife epoch)
IsCaused told now may_end before did after old turn.Changed new = did.stage ≡ Changed
IsCaused told now may_end before did after old turn.EpochsOut new = (did.stage ≡ Over) × IsAskedIn before.present.epoch turn.EpochsOut
IsCaused told now may_end before did after old turn.ReadFault new = MayTurn did.stage
IsCaused told now may_end before did after old turn.NoMemory new = MayTurn did.stage

-- at this moment, of which the history knows; `may_end` says that the end may be found
pub record Goes {T : Type 0} (numbers : T → Option (ℕ × ℕ)) (told : T → Option TailHistory) (most now : ℕ) (may_end : Bool) (history : History) (old : Harvester T) (answer : Turn) (new : Harvester T) : Type 0 where
  pub did : Did
  pub has_told : HasTold numbers told (after_did now answer did history) new
  pub few : length did.bytes ≤ most
  pub reads_where_none_closes : 0 < length did.bytes → NoneCloses history
  pub no_event_left : history.stage ≡ Reads → IsQuiet answer → NoneCloses history
  pub ends_where_found : did.stage ≡ Ended → EndsHere told may_end history old new
  pub stays_ended : history.stage ≡ Ended → did.stage ≡ Ended
  pub asks_where_none_closes : history.stage ≡ Reads → did.stage ≡ Asks → NoneCloses history
  pub flushed : (did.licences ≡ []) ⊎ MayFlush now did.stage did.licences (with_read now did.bytes history)
  pub caused : IsCaused told now may_end history did (after_did now answer did history) old answer new

abbrev pub answer_of : Result Turn TurnError → Turn
answer_of (Ok answer) = answer
answer_of (Err error.ReadFault) = turn.ReadFault
answer_of (Err error.NoMemory) = turn.NoMemory

-- the event that was reported, if one was closed
abbrev pub events_of : List ℕ → ℕ → Result (Option Turn) NoMemory → List ToldEvent
events_of path now (Ok (Some answer)) = events_told path now answer
events_of path now (Ok None) = []
events_of path now (Err error) = []

abbrev pub ToldOne : Result (Option Turn) NoMemory → Type 0
ToldOne (Ok (Some answer)) = HasOneEvent answer
ToldOne (Ok None) = Unit {0}
ToldOne (Err error) = Unit {0}

-- the end may be found, and was
pub record MayBeEnded {T : Type 0} (numbers : T → Option (ℕ × ℕ)) (told : T → Option TailHistory) (history : History) (harvester : Harvester T) : Type 0 where
  pub may : history.may_end ≡ true
  pub found : IfSome (told harvester.tail) (FoundEnd (numbers harvester.tail) history)

-- no event is closed, and none is due; at the end none waits
pub record IsSettled {T : Type 0} (now : ℕ) (ended : Bool) (history : History) (new : Harvester T) : Type 0 where
  pub none_closes : NoneCloses history
  pub none_waits : ¬ (IsWaiting new) → left_to_tell history ≡ []
  pub none_due : NoneDue history now
  pub all_told : ended ≡ true → left_to_tell history ≡ []
  pub last_line : last_line_of new ≡ history.last_line

-- once more was read: what was reported, where an event may be flushed, and the state of the file then
pub record Settled {T : Type 0} (numbers : T → Option (ℕ × ℕ)) (told : T → Option TailHistory) (now : ℕ) (ended : Bool) (history : History) (result : Result (Option Turn) NoMemory) (new : Harvester T) : Type 0 where
  pub licences : List ℕ
  pub stage : Stage
  pub goes_on : MayTurn stage
  -- the file is ended only if it may be, and then if no event is closed
  pub ends : stage ≡ Ended → ended ≡ true
  pub at_none : result ≡ Ok None → stage ≡ stage_of (stage_behind_end ended)
  pub has_told : HasTold numbers told (did_with now (events_of history.path now result) (record { bytes = []; licences = licences; stage = stage }) history) new
  pub one : ToldOne result
  pub flushed : (licences ≡ []) ⊎ MayFlush now stage licences history
  pub at_rest : result ≡ Ok None → IsSettled now ended history new

-- the answers after which the harvester is turned no more
abbrev pub IsLast : Turn → Type 0
IsLast turn.Changed = Unit {0}
IsLast turn.EpochsOut = Unit {0}
IsLast answer = ⊥
