-- What a worker stands for (Lumberjack v2; this project's profile): the parcels that the talks of its links acknowledged so
-- far, in order. What it has acknowledged is what they read, and they send nothing but what it took. Its links are those of
-- its wire's outcomes from a place on; those before it are of others.
use Rattle.std.specs.Prelude.{◌≡◌, ℕ, ◌≤◌, List, [], ◌++◌, length, drop, Option, Some, None, IfSome}
use Rattle.lumber_client.specs.Exchange.{Exchange, acknowledged_in, payloads_of}
use Rattle.lumber_client.specs.Standing.{StandsFor as WindowStandsFor}
use Rattle.outside.specs.Talks.{Talk}
use Rattle.outside.specs.Wires.{Outcome}
use Rattle.wire_base.specs.declared.parcel.Parcel.{Parcel}
use Rattle.wire_base.specs.declared.talk.Piece.{Piece}
use Rattle.batch_worker.specs.Acknowledged.{AcknowledgeInAll}
use Rattle.batch_worker.specs.Held.{carried_in}
use Rattle.batch_worker.specs.Sent.{AreSentOnly, AreSmall}
use Rattle.batch_worker.specs.Working.{Working}

abbrev pub HasTalk : Option Talk → List Piece → Type 0
HasTalk None pieces = ⊥
HasTalk (Some talk) pieces = talk.pieces ≡ pieces

-- the link's talk, if the wire is known; without a link there is none
abbrev pub Speaks : {L : Type 0} → (L → Option Talk) → Option L → Option (List Outcome) → List Piece → Type 0
Speaks told None outcomes pieces = pieces ≡ []
Speaks told (Some link) None pieces = Unit {0}
Speaks told (Some link) (Some outcomes) pieces = HasTalk (told link) pieces

-- how many outcomes the wire has reported; none if it is not known
abbrev pub length_of : Option (List Outcome) → ℕ
length_of None = 0
length_of (Some outcomes) = length outcomes

pub record StandsFor {L : Type 0} (told : L → Option Talk) (start : ℕ) (w : Working L) (outcomes : Option (List Outcome)) (acknowledged : List Parcel) : Type 0 where
  -- what goes over the present link
  pub exchange : Exchange
  pub window : WindowStandsFor w.window exchange
  pub talk : Speaks told w.link outcomes exchange.talk
  pub small : AreSmall w.window.most exchange.begun
  -- with the present link the talks from there on acknowledge these
  pub are : acknowledged ≡ exchange.earlier ++ acknowledged_in exchange
  pub reached : IfSome outcomes (λ list. start ≤ length list)
  pub finished : IfSome outcomes (λ list. AcknowledgeInAll (drop start list) (payloads_of exchange.earlier))
  -- and send nothing but what was taken
  pub sent : IfSome outcomes (λ list. AreSentOnly w.window.most (acknowledged ++ carried_in w.window) (drop start list))
