-- What the calls of a worker keep (this project's profile): each parcel that it took is acknowledged or carried, in order;
-- each that is acknowledged is posted or its note is owed, in order; and the talks of its links acknowledge just these.
use Rattle.std.specs.Prelude.{◌≡◌, ◌⊎◌, ℕ, ◌+◌, ◌-◌, ◌^◌, ◌≤◌, min, All, Contains, List, [], ◌∷◌, ◌++◌, Option, Some, None}
use Rattle.mem_queue.specs.Entries.{parcels}
use Rattle.mem_queue.specs.Known.{Known, known}
use Rattle.mem_queue.specs.declared.entry.Entry.{Entry}
use Rattle.outside.specs.Counts.{IsAtEnd}
use Rattle.outside.specs.Talks.{Talk}
use Rattle.settle_box.specs.Poster.{Poster, poster}
use Rattle.settle_box.specs.Senders.{sender}
use Rattle.wire_base.specs.declared.note.Note.{Note}
use Rattle.wire_base.specs.declared.numbers.Moment.{Moment}
use Rattle.wire_base.specs.declared.parcel.Parcel.{Parcel}
use Rattle.batch_worker.specs.Held.{carried_in, notes_of, owed_by}
use Rattle.batch_worker.specs.Seen.{Seen, with_link}
use Rattle.batch_worker.specs.Standing.{StandsFor}
use Rattle.batch_worker.specs.Working.{Working}

-- these were taken after the others
abbrev pub with_taken : Option Known → List Entry → Option Known
with_taken None entries = None
with_taken (Some take) entries = Some (known take.queue take.share (take.entries ++ entries))

-- these were posted after the others, under the same name
abbrev pub with_posted : Option Poster → List Note → Option Poster
with_posted None notes = None
with_posted (Some post) notes = Some (poster post.desk post.share (sender post.mine.name post.mine.made (post.mine.posted ++ notes)) post.joined)

-- from what a worker stands for before to what it stands for afterwards: `Before` and `After` say it of a place among the wire's
-- outcomes and of the parcels that were acknowledged since then
pub record Keeps {L : Type 0} (Before After : ℕ → List Parcel → Type 0) (before after : Seen) (old new : Working L) : Type 0 where
  -- what was taken, acknowledged and posted, each in order
  pub taken : List Entry
  pub acknowledged : List Parcel
  pub posted : List Note
  pub host : new.host ≡ old.host
  pub timeout : new.timeout ≡ old.timeout
  pub most : new.window.most ≡ old.window.most
  pub depth : new.window.depth ≡ old.window.depth
  pub take : new.take ≡ with_taken old.take taken
  pub post : new.post ≡ with_posted old.post posted
  pub parcels_are : carried_in old.window ++ parcels taken ≡ acknowledged ++ carried_in new.window
  pub notes_are : owed_by old ++ notes_of acknowledged ≡ posted ++ owed_by new
  pub stands : (start : ℕ) (earlier : List Parcel) → Before start earlier → After start (earlier ++ acknowledged)
  -- the wire's other links stay as many, and its faults never fall
  pub open_links : (others : ℕ) → before.open_links ≡ with_link others old.link → ¬ (IsAtEnd others) → after.open_links ≡ with_link others new.link
  pub faults : before.faults ≤ after.faults

abbrev pub WorkerKeeps : {L : Type 0} → (L → Option Talk) → Seen → Seen → Working L → Working L → Type 0
WorkerKeeps told before after old new = Keeps (λ start. StandsFor told start old before.outcomes) (λ start. StandsFor told start new after.outcomes) before after old new

-- ---- moments

-- each moment at which a window was out was one before, or is now; the last byte was heard when it was before, or now, or the
-- link has heard none
pub record KeepsMoments {L : Type 0} (now : Moment) (old new : Working L) : Type 0 where
  pub outs : All (λ out. Contains old.outs out ⊎ (out ≡ now)) new.outs
  pub heard : (new.heard ≡ old.heard) ⊎ ((new.heard ≡ now) ⊎ (new.heard.0 ≡ 0))

-- all of them stay
pub record SameMoments {L : Type 0} (old new : Working L) : Type 0 where
  pub outs : new.outs ≡ old.outs
  pub heard : new.heard ≡ old.heard

-- ---- failures in a row

-- this many are still there if these parcels were acknowledged
abbrev pub failures_since : List Parcel → ℕ → ℕ
failures_since [] failures = failures
failures_since (parcel ∷ parcels) failures = 0

-- with one more; the number saturates at 2^32 - 1
abbrev pub one_failure_more : ℕ → ℕ
one_failure_more failures = min (failures + 1) (2 ^ 32 - 1)

-- no failure came
pub record Goes {L : Type 0} (Before After : ℕ → List Parcel → Type 0) (before after : Seen) (old new : Working L) : Type 0 where
  pub keeps : Keeps Before After before after old new
  pub failures : new.failures ≡ failures_since keeps.acknowledged old.failures
  pub failed : new.failed ≡ old.failed

abbrev pub WorkerGoes : {L : Type 0} → (L → Option Talk) → Seen → Seen → Working L → Working L → Type 0
WorkerGoes told before after old new = Goes (λ start. StandsFor told start old before.outcomes) (λ start. StandsFor told start new after.outcomes) before after old new

-- one failure came, and the link is gone
pub record FailsAt {L : Type 0} (told : L → Option Talk) (before after : Seen) (old new : Working L) (now : Moment) : Type 0 where
  pub keeps : WorkerKeeps told before after old new
  pub failures : new.failures ≡ one_failure_more (failures_since keeps.acknowledged old.failures)
  pub failed : new.failed ≡ now
  pub unlinked : new.link ≡ None
  pub moments : KeepsMoments now old new
