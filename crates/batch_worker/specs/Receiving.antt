-- What a worker makes of the bytes of its peer (this project's profile). Cited only by private calls.
use Rattle.std.specs.Prelude.{◌≡◌, ℕ, ◌-◌, ◌≤◌, List, [], ◌∷◌, length, drop, Option, Some, None, is_some}
use Rattle.lumber_client.specs.Exchange.{Exchange}
use Rattle.lumber_client.specs.Held.{Held, made_again}
use Rattle.lumber_client.specs.Newly.{KeepsParcels}
use Rattle.lumber_client.specs.Standing.{StandsFor as WindowStandsFor}
use Rattle.outside.specs.Counts.{Rose}
use Rattle.outside.specs.Talks.{Talk}
use Rattle.wire_base.specs.declared.numbers.Moment.{Moment}
use Rattle.batch_worker.specs.declared.receiving.Received.{Received}
use Rattle.batch_worker.specs.declared.receiving.Received.TheVariants.{Bytes, Fault, Nothing, Closed, Failed}
use Rattle.batch_worker.specs.Answers.{TalkIdles}
use Rattle.batch_worker.specs.Feeding.{Feeds}
use Rattle.batch_worker.specs.Held.{settled_in}
use Rattle.batch_worker.specs.Keeping.{failures_since}
use Rattle.batch_worker.specs.Links.{TalkGets}
use Rattle.batch_worker.specs.Working.{Working}

-- the moments of the windows that are still in flight
abbrev pub outs_kept : List Moment → ℕ → List Moment
outs_kept outs kept = drop (length outs - kept) outs

-- after a fault the window was made again
abbrev pub window_behind : Option ℕ → Held → Held
window_behind None window = window
window_behind (Some at) window = made_again window

abbrev pub outs_left : Option ℕ → List Moment → Held → List Moment
outs_left None outs window = outs_kept outs (length window.flights)
outs_left (Some at) outs window = []

-- the bytes were given to the window, up to the first fault
pub record Hears {L : Type 0} (now : Moment) (old new : Working L) (bytes : List ℕ) (fault : Option ℕ) : Type 0 where
  pub window : Held
  pub kept : KeepsParcels old.window window
  pub more : old.window.acknowledged ≤ window.acknowledged
  pub failed : window.hearing.failed ≡ is_some fault
  pub fed : (e : Exchange) → WindowStandsFor old.window e → Feeds window e bytes fault
  pub is : new ≡ record old { window = window_behind fault window; failures = failures_since (settled_in window) old.failures; outs = outs_left fault old.outs window; heard = now }

-- the link received, and nothing else changed
pub record HasReceived {L : Type 0} (old mid : Working L) (Cause : L → L → Type 0) : Type 0 where
  pub link : L
  pub was : old.link ≡ Some link
  pub later : L
  pub is : mid ≡ record old { link = Some later }
  pub cause : Cause link later

-- nothing had come
pub record Idles {L : Type 0} (told : L → Option Talk) (idles : L → ℕ) (link later : L) : Type 0 where
  pub told_is : TalkIdles (told link) (told later)
  pub rose : Rose (idles link) (idles later)

-- the link failed, or was closed
pub record Faults {L : Type 0} (told : L → Option Talk) (faults : L → ℕ) (link later : L) : Type 0 where
  pub told_is : told later ≡ told link
  pub rose : Rose (faults link) (faults later)
  pub no_fewer : faults link ≤ faults later

-- these bytes came
pub record Gets {L : Type 0} (told : L → Option Talk) (bytes : List ℕ) (link later : L) : Type 0 where
  pub first : ℕ
  pub others : List ℕ
  pub some : bytes ≡ first ∷ others
  pub told_is : TalkGets (told link) bytes (told later)

-- these bytes came, and the window was given them
pub record HearsOver {L : Type 0} (told : L → Option Talk) (now : Moment) (old new : Working L) (fault : Option ℕ) : Type 0 where
  pub bytes : List ℕ
  pub mid : Working L
  pub received : HasReceived old mid (Gets told bytes)
  pub hears : Hears now mid new bytes fault

abbrev pub Receives : {L : Type 0} → (L → Option Talk) → (L → ℕ) → (L → ℕ) → Moment → Working L → Working L → Received → Type 0
Receives told faults idles now old new Bytes = HearsOver told now old new None
Receives told faults idles now old new (Fault at) = HearsOver told now old new (Some at)
Receives told faults idles now old new Nothing = HasReceived old new (Idles told idles)
Receives told faults idles now old new Closed = HasReceived old new (Faults told faults)
Receives told faults idles now old new Failed = HasReceived old new (Faults told faults)
