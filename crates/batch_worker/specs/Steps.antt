-- Steps of a worker (this project's profile). Cited only by private calls.
use Rattle.std.specs.Prelude.{◌≡◌, ◌⊎◌, ℕ, suc, ◌<◌, ◌≤◌, List, [], ◌∷◌, ◌++◌, length, take, Option, Some, None, Ok}
use Rattle.atomic_table.specs.Seated.{TableId}
use Rattle.lumber_client.specs.Exchange.{Exchange, with_begun, with_handed, with_sent}
use Rattle.lumber_client.specs.Held.{begun_as, next_in, sent_as, waiting_in, with_offered, with_parcels}
use Rattle.lumber_client.specs.Standing.{StandsFor as WindowStandsFor}
use Rattle.mem_queue.specs.Known.{Known}
use Rattle.mem_queue.specs.Rule.{WasEmpty}
use Rattle.mem_queue.specs.declared.entry.Entry.{Entry}
use Rattle.outside.specs.Counts.{Rose}
use Rattle.outside.specs.Talks.{Talk, TellsSending}
use Rattle.settle_box.specs.Poster.{Poster}
use Rattle.settle_box.specs.Rule.{WasFull}
use Rattle.wire_base.specs.declared.note.Note.{Note}
use Rattle.wire_base.specs.declared.numbers.Moment.{Moment}
use Rattle.wire_base.specs.declared.parcel.Parcel.{Parcel}
use Rattle.batch_worker.specs.Held.{note_of}
use Rattle.batch_worker.specs.Keeping.{with_posted, with_taken}
pub use Rattle.batch_worker.specs.Links.{KeepsOrMakesLink}
use Rattle.batch_worker.specs.Working.{Working}

-- what takes is there, and of this queue
abbrev pub TakesOf : TableId → Option Known → Type 0
TakesOf queue None = ⊥
TakesOf queue (Some take) = take.queue ≡ queue

-- what posts is there, and of this box
abbrev pub PostsOf : TableId → Option Poster → Type 0
PostsOf desk None = ⊥
PostsOf desk (Some post) = post.desk ≡ desk

-- the queue was empty at a step of a call, in a state that its rule allows
abbrev pub FoundEmpty : Option Known → Type 0
FoundEmpty None = ⊥
FoundEmpty (Some take) = WasEmpty take

-- the box was full at a step of a call, in a state that its rule allows
abbrev pub FoundFull : ℕ → Option Poster → Type 0
FoundFull capacity None = ⊥
FoundFull capacity (Some post) = WasFull capacity post

-- with the moment at which the window that was going out is out
abbrev pub outs_behind : List ℕ → List Moment → Moment → List Moment
outs_behind [] outs now = outs ++ now ∷ []
outs_behind (byte ∷ bytes) outs now = outs

-- one parcel was taken and waits
pub record TakesOne {L : Type 0} (old new : Working L) : Type 0 where
  pub entry : Entry
  pub is : new ≡ record old { take = with_taken old.take (entry ∷ []); window = with_offered old.window entry.parcel }
  pub stands : (e : Exchange) → WindowStandsFor old.window e → WindowStandsFor new.window e

-- a note was posted, if there is one
abbrev pub with_noted : Option Poster → Option Note → Option Poster
with_noted post None = post
with_noted post (Some note) = with_posted post (note ∷ [])

-- the next acknowledged parcel was handed out, and its note is owed
pub record SettlesOne {L : Type 0} (old new : Working L) : Type 0 where
  pub parcel : Parcel
  pub first : old.window.parcels ≡ parcel ∷ new.window.parcels
  pub fewer : old.window.acknowledged ≡ suc new.window.acknowledged
  pub is : new ≡ record old { window = with_parcels old.window new.window.parcels new.window.acknowledged; refused = Some (note_of parcel) }
  pub stands : (e : Exchange) → WindowStandsFor old.window e → WindowStandsFor new.window (with_handed e parcel)

-- a piece of what was begun went out
pub record SendsSome {L : Type 0} (told : L → Option Talk) (now : Moment) (old new : Working L) : Type 0 where
  pub link : L
  pub was : old.link ≡ Some link
  pub later : L
  pub count : ℕ
  pub some : 0 < count
  pub fits : count ≤ length old.window.out
  pub is : new ≡ record old { link = Some later; window = sent_as old.window new.window.out new.window.behind; outs = outs_behind new.window.out old.outs now }
  pub told_is : TellsSending (told link) old.window.out (Ok count) (told later)
  pub stands : (e : Exchange) → WindowStandsFor old.window e → WindowStandsFor new.window (with_sent e (take count old.window.out))

-- the sending failed, and nothing else changed
pub record FailsToSend {L : Type 0} (told : L → Option Talk) (faults : L → ℕ) (old new : Working L) : Type 0 where
  pub link : L
  pub was : old.link ≡ Some link
  pub later : L
  pub is : new ≡ record old { link = Some later }
  pub told_is : told later ≡ told link
  pub rose : Rose (faults link) (faults later)
  pub no_fewer : faults link ≤ faults later

-- parcels were taken, as many as were there, or none; nothing else changed
pub record IsFilled {L : Type 0} (old new : Working L) : Type 0 where
  pub same_or_some : (new ≡ old) ⊎ (0 < length (waiting_in new.window))
  pub parcels : List Parcel
  pub is : new ≡ record old { take = new.take; window = with_parcels old.window (old.window.parcels ++ parcels) old.window.acknowledged }

-- a window was begun of the parcels that wait
pub record BeginsOne {L : Type 0} (old new : Working L) : Type 0 where
  pub is : new ≡ record old { window = begun_as old.window new.window.out new.window.behind }
  pub some : 0 < length (waiting_in old.window)
  pub stands : (e : Exchange) → WindowStandsFor old.window e → WindowStandsFor new.window (with_begun e (next_in old.window))
