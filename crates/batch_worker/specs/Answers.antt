-- What the answers of a worker's turn say (this project's profile).
use Rattle.std.specs.Prelude.{◌≡◌, ◌⊎◌, ℕ, ◌+◌, ◌-◌, ◌^◌, ◌<◌, ◌≤◌, min, true, List, [], ◌∷◌, ◌++◌, length, Option, Some, None, IfSome, IsSome}
use Rattle.outside.specs.Counts.{Rose, added_counts}
use Rattle.outside.specs.Talks.{Talk}
use Rattle.outside.specs.Wires.{KeepsRefusal, TellsFinishing}
use Rattle.lumber_frame.specs.PeerFault.{HasPeerFault}
use Rattle.lumber_frame.specs.Talk.{in_bytes}
use Rattle.mem_queue.specs.declared.entry.Entry.{Entry}
use Rattle.wire_base.specs.declared.note.Note.{Note}
use Rattle.wire_base.specs.declared.numbers.Moment.{Moment}
use Rattle.wire_base.specs.declared.parcel.Parcel.{Parcel}
use Rattle.wire_base.specs.declared.talk.Piece.{Piece}
use Rattle.wire_base.specs.declared.talk.Piece.TheVariants.{In}
use Rattle.batch_worker.specs.declared.answer.Failure.{Failure}
use Rattle.batch_worker.specs.declared.answer.Failure.TheVariants.{Connect, Send, Receive, Closed, Peer, TimedOut}
use Rattle.batch_worker.specs.declared.answer.WorkerTurn.{WorkerTurn}
use Rattle.batch_worker.specs.declared.answer.WorkerTurn.TheVariants.{Worked, Idle, Held, NotYet, Resting, Failed}
use Rattle.batch_worker.specs.Keeping.{FailsAt, KeepsMoments, WorkerGoes}
use Rattle.batch_worker.specs.Links.{IsAllOut, UsesLink}
use Rattle.batch_worker.specs.Rests.{IsResting, rest_end}
use Rattle.batch_worker.specs.Seen.{Seen}
use Rattle.batch_worker.specs.Standing.{HasTalk, StandsFor}
use Rattle.batch_worker.specs.Steps.{FoundEmpty, FoundFull}
use Rattle.batch_worker.specs.Waits.{silent_since}
use Rattle.batch_worker.specs.Working.{Working}

-- ---- worked

-- one more piece was sent or received
abbrev pub HasMore : Option Talk → Option Talk → Type 0
HasMore None after = after ≡ None
HasMore (Some talk) after = (piece : Piece) × HasTalk after (talk.pieces ++ piece ∷ [])

pub record TalkGrew {L : Type 0} (told : L → Option Talk) (old new : Option L) : Type 0 where
  pub before : L
  pub was : old ≡ Some before
  pub after : L
  pub is : new ≡ Some after
  pub grew : HasMore (told before) (told after)

-- a parcel was taken, a note posted, a link made, a window begun, or a byte sent or received
abbrev pub DidSome : {L : Type 0} → (L → Option Talk) → Working L → Working L → List Entry → List Note → Type 0
DidSome told old new taken posted = (0 < length taken) ⊎ ((0 < length posted) ⊎ (((old.link ≡ None) × IsSome new.link)
    ⊎ ((length old.window.flights < length new.window.flights) ⊎ TalkGrew told old.link new.link)))

pub record Works {L : Type 0} (told : L → Option Talk) (before after : Seen) (now : Moment) (old new : Working L) : Type 0 where
  pub goes : WorkerGoes told before after old new
  pub did : DidSome told old new goes.keeps.taken goes.keeps.posted
  pub link : UsesLink told old new
  -- no link was refused or finished
  pub outcomes : after.outcomes ≡ before.outcomes
  pub moments : KeepsMoments now old new

-- ---- nothing to do

-- nothing was taken, and there is no parcel
pub record IsIdle {L : Type 0} (before after : Seen) (old new : Working L) : Type 0 where
  pub same : new ≡ old
  pub wire : after ≡ before
  pub none : old.window.parcels ≡ []
  pub empty : FoundEmpty new.take

pub record IsHeld {L : Type 0} (told : L → Option Talk) (capacity : ℕ) (before after : Seen) (now : Moment) (old new : Working L) : Type 0 where
  pub goes : WorkerGoes told before after old new
  pub wire : after ≡ before
  pub moments : KeepsMoments now old new
  pub link : new.link ≡ old.link
  pub full : FoundFull capacity new.post

-- all that was begun is out and not acknowledged in full, nothing came, and no further window may be begun or the queue was
-- empty
pub record IsWaiting {L : Type 0} (told : L → Option Talk) (idles : L → ℕ) (before after : Seen) (now : Moment) (old new : Working L) : Type 0 where
  pub goes : WorkerGoes told before after old new
  pub wire : after ≡ before
  pub moments : KeepsMoments now old new
  pub all_out : IsAllOut old
  pub window : new.window ≡ old.window
  pub no_more : (new.window.depth ≤ length new.window.flights) ⊎ FoundEmpty new.take
  pub link : L
  pub was : old.link ≡ Some link
  pub later : L
  pub is : new.link ≡ Some later
  pub idle : Rose (idles link) (idles later)
  pub early : now.0 < silent_since new + new.timeout

-- ---- failures

-- no link could be made; the refusal is among the outcomes, if the wire is known
pub record IsRefused {L : Type 0} (before after : Seen) (old : Working L) : Type 0 where
  pub unlinked : old.link ≡ None
  pub rose : Rose before.faults after.faults
  pub kept : IfSome before.outcomes (λ list. KeepsRefusal list after.outcomes after.faults)

-- the link was finished; what it came to
pub record Finishes {L : Type 0} (told : L → Option Talk) (faults idles : L → ℕ) (before after : Seen) (old new : Working L) (Cause : L → L → Type 0) : Type 0 where
  pub link : L
  pub was : old.link ≡ Some link
  pub ended : L
  pub outcome : TellsFinishing before.outcomes (told ended) (faults ended) (idles ended) after.outcomes
  pub counts_faults : added_counts before.faults (faults ended) ≤ after.faults
  pub counts_idles : added_counts before.idles (idles ended) ≤ after.idles
  pub cause : Cause link ended
  -- no moment of it stays
  pub no_outs : new.outs ≡ []
  pub unheard : new.heard.0 ≡ 0

-- it was read first, which it is only if all is out
pub record FinishesAsRead {L : Type 0} (told : L → Option Talk) (faults idles : L → ℕ) (before after : Seen) (old new : Working L) (Cause : L → L → Type 0) : Type 0 where
  pub all_out : IsAllOut old
  pub finishes : Finishes told faults idles before after old new Cause

-- it failed, or was found closed: its faults rose, and its talk is the same
pub record IsFaulty {L : Type 0} (told : L → Option Talk) (faults : L → ℕ) (link ended : L) : Type 0 where
  pub same_talk : told ended ≡ told link
  pub rose : Rose (faults link) (faults ended)
  pub no_fewer : faults link ≤ faults ended

-- the byte at this place of all that were received makes a fault of the peer
pub record IsFaultAt (talk : List Piece) (at : ℕ) : Type 0 where
  pub before : List Piece
  pub front : List ℕ
  pub byte : ℕ
  pub rest : List ℕ
  pub are : talk ≡ before ++ In ((front ++ byte ∷ []) ++ rest) ∷ []
  pub fault : HasPeerFault (before ++ In (front ++ byte ∷ []) ∷ [])
  pub place : at ≡ min (length (in_bytes before) + length front) (2 ^ 64 - 1)

abbrev pub FaultIsTold : Option Talk → ℕ → Type 0
FaultIsTold None at = ⊥
FaultIsTold (Some talk) at = IsFaultAt talk.pieces at

-- the same holds if the wire is known, and the worker stands for what its talks acknowledged
abbrev pub IsPeersFault : {L : Type 0} → (L → Option Talk) → Seen → Working L → ℕ → L → L → Type 0
IsPeersFault told before old at link ended = (start : ℕ) (acknowledged : List Parcel) → StandsFor told start old before.outcomes acknowledged → IfSome before.outcomes (λ _. FaultIsTold (told ended) at)

-- nothing had come
abbrev pub TalkIdles : Option Talk → Option Talk → Type 0
TalkIdles None after = after ≡ None
TalkIdles (Some talk) after = after ≡ Some (record talk { idled = true })

-- nothing came, and nothing was sent after that; the peer was silent for the timeout
pub record IsTimedOut {L : Type 0} (told : L → Option Talk) (idles : L → ℕ) (now : Moment) (old : Working L) (since until : Moment) (link ended : L) : Type 0 where
  pub some_outs : 0 < length old.outs
  pub idled : TalkIdles (told link) (told ended)
  pub idle : Rose (idles link) (idles ended)
  pub since_is : since.0 ≡ silent_since old
  pub until_is : until ≡ now
  pub apart : since.0 + old.timeout ≤ now.0

-- by its cause
abbrev pub FailsFor : {L : Type 0} → (L → Option Talk) → (L → ℕ) → (L → ℕ) → Seen → Seen → Moment → Working L → Working L → Failure → Type 0
FailsFor told faults idles before after now old new Connect = IsRefused before after old
FailsFor told faults idles before after now old new Send = Finishes told faults idles before after old new (IsFaulty told faults)
FailsFor told faults idles before after now old new Receive = FinishesAsRead told faults idles before after old new (IsFaulty told faults)
FailsFor told faults idles before after now old new Closed = FinishesAsRead told faults idles before after old new (IsFaulty told faults)
FailsFor told faults idles before after now old new (Peer at) = FinishesAsRead told faults idles before after old new (IsPeersFault told before old at)
FailsFor told faults idles before after now old new (TimedOut since until) = FinishesAsRead told faults idles before after old new (IsTimedOut told idles now old since until)

-- ---- each answer

pub record Fails {L : Type 0} (told : L → Option Talk) (faults idles : L → ℕ) (before after : Seen) (now : Moment) (old new : Working L) (failure : Failure) : Type 0 where
  pub fails : FailsAt told before after old new now
  pub cause : FailsFor told faults idles before after now old new failure

pub record Rests {L : Type 0} (before after : Seen) (now : Moment) (old new : Working L) (until : Moment) : Type 0 where
  pub same : new ≡ old
  pub wire : after ≡ before
  pub resting : IsResting old now.0
  pub until_is : until.0 ≡ rest_end old

abbrev pub IsTurn : {L : Type 0} → (L → Option Talk) → (L → ℕ) → (L → ℕ) → ℕ → Seen → Seen → Moment → Working L → Working L → WorkerTurn → Type 0
IsTurn told faults idles capacity before after now old new Worked = Works told before after now old new
IsTurn told faults idles capacity before after now old new Idle = IsIdle before after old new
IsTurn told faults idles capacity before after now old new Held = IsHeld told capacity before after now old new
IsTurn told faults idles capacity before after now old new NotYet = IsWaiting told idles before after now old new
IsTurn told faults idles capacity before after now old new (Resting until) = Rests before after now old new until
IsTurn told faults idles capacity before after now old new (Failed failure) = Fails told faults idles before after now old new failure

-- the answer is that it rests
abbrev pub IsRest : WorkerTurn → Type 0
IsRest Worked = ⊥
IsRest Idle = ⊥
IsRest Held = ⊥
IsRest NotYet = ⊥
IsRest (Resting until) = Unit {0}
IsRest (Failed failure) = ⊥
