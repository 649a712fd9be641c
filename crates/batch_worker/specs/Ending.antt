-- A worker that is to finish its link (this project's profile): with the link's talk, the talks of its links acknowledge the
-- parcels that it has acknowledged, and send nothing but what it took. Cited only by private calls.
use Rattle.std.specs.Prelude.{◌≡◌, ℕ, ◌-◌, ◌≤◌, List, [], ◌∷◌, ◌++◌, length, drop, Option, Some, None, IfSome}
use Rattle.lumber_client.specs.Exchange.{Exchange, acknowledged_in, payloads_of}
use Rattle.lumber_client.specs.Held.{made_again}
use Rattle.lumber_client.specs.Standing.{StandsFor as WindowStandsFor}
use Rattle.outside.specs.Counts.{added_counts}
use Rattle.outside.specs.Talks.{Talk}
use Rattle.outside.specs.Wires.{Outcome, Finished, TellsFinishing}
use Rattle.wire_base.specs.declared.numbers.Moment.{Moment}
use Rattle.wire_base.specs.declared.parcel.Parcel.{Parcel}
use Rattle.batch_worker.specs.Acknowledged.{AcknowledgeInAll}
use Rattle.batch_worker.specs.Held.{carried_in}
use Rattle.batch_worker.specs.Keeping.{one_failure_more}
use Rattle.batch_worker.specs.Seen.{Seen}
use Rattle.batch_worker.specs.Sent.{AreSentOnly}
use Rattle.batch_worker.specs.Working.{Working}

-- these outcomes have the talks of all links
pub record HasTalks (most : ℕ) (acknowledged taken : List Parcel) (outcomes : List Outcome) : Type 0 where
  pub acknowledges : AcknowledgeInAll outcomes (payloads_of acknowledged)
  pub sent : AreSentOnly most taken outcomes

-- this holds once the link is finished, whatever its counts
abbrev pub WithTalk : ℕ → List Parcel → List Parcel → List Outcome → Option Talk → Type 0
WithTalk most acknowledged taken outcomes None = ⊥
WithTalk most acknowledged taken outcomes (Some talk) = (faults idles : ℕ) → HasTalks most acknowledged taken (outcomes ++ Finished talk faults idles ∷ [])

-- so of the outcomes from this place on
abbrev pub CanFinish : {L : Type 0} → (L → Option Talk) → ℕ → ℕ → List Parcel → List Parcel → Option L → Option (List Outcome) → Type 0
CanFinish told start most acknowledged taken link None = Unit {0}
CanFinish told start most acknowledged taken None (Some outcomes) = HasTalks most acknowledged taken (drop start outcomes)
CanFinish told start most acknowledged taken (Some link) (Some outcomes) = WithTalk most acknowledged taken (drop start outcomes) (told link)

pub record MayEnd {L : Type 0} (told : L → Option Talk) (start : ℕ) (w : Working L) (outcomes : Option (List Outcome)) (acknowledged : List Parcel) : Type 0 where
  pub exchange : Exchange
  pub window : WindowStandsFor w.window exchange
  pub are : acknowledged ≡ exchange.earlier ++ acknowledged_in exchange
  pub reached : IfSome outcomes (λ list. start ≤ length list)
  pub finishing : CanFinish told start w.window.most acknowledged (acknowledged ++ carried_in w.window) w.link outcomes

-- ---- the link is finished

pub record IsFinished {L : Type 0} (told : L → Option Talk) (faults idles : L → ℕ) (link : L) (before after : Seen) : Type 0 where
  pub outcome : TellsFinishing before.outcomes (told link) (faults link) (idles link) after.outcomes
  pub open_links : after.open_links ≡ before.open_links - 1
  pub counts_faults : added_counts before.faults (faults link) ≤ after.faults
  pub counts_idles : added_counts before.idles (idles link) ≤ after.idles

-- if there is one
abbrev pub EndsLink : {L : Type 0} → (L → Option Talk) → (L → ℕ) → (L → ℕ) → Option L → Seen → Seen → Type 0
EndsLink told faults idles None before after = after ≡ before
EndsLink told faults idles (Some link) before after = IsFinished told faults idles link before after

-- the worker after one more failure
abbrev pub failed_at : {L : Type 0} → Working L → Moment → Working L
failed_at w now = record w { failures = one_failure_more w.failures; failed = now }

-- without its link, what is not acknowledged waits
abbrev pub unlinked : {L : Type 0} → Working L → Working L
unlinked w = record w { link = None; window = made_again w.window; outs = []; heard = record { 0 = 0 } }
