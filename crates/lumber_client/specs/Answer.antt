-- What one more byte of a peer is reported as (Lumberjack v2; this project's profile for several windows in flight).
use Rattle.std.specs.Prelude.{◌≡◌, ℕ, ◌*◌, ◌-◌, ◌^◌, ◌<◌, min, List, ◌++◌, length}
use Rattle.wire_base.specs.declared.parcel.Parcel.{Parcel}
use Rattle.lumber_frame.specs.Talk.{in_bytes, out_before}
use Rattle.lumber_frame.specs.Acknowledged.{acknowledgements, asked, greatest}
use Rattle.lumber_frame.specs.PeerFault.{HasPeerFault}
use Rattle.lumber_client.specs.declared.heard.Heard.{Heard}
use Rattle.lumber_client.specs.declared.heard.Heard.TheVariants.{More, Alive, Acked, PeerFault}
use Rattle.lumber_client.specs.Exchange.{Exchange, windows_of, given_in, acknowledged_in, with_heard}

-- whole frames were given and no beginning of another
abbrev pub AreWhole : Exchange → Type 0
AreWhole e = (frames : ℕ) × (length (in_bytes e.talk) ≡ 6 * frames)

-- the number of the window of which the frame asks that ends with the next byte
abbrev pub asked_next : Exchange → Exchange → ℕ
asked_next before after = asked (windows_of before.begun) (given_in before) (out_before after.talk (6 * length (acknowledgements (in_bytes before.talk))))

-- the frame that ends with this byte acknowledges more of the window of which it asks: up to `from` was acknowledged, and now
-- it is up to `to`
pub record IsAcked (before after : Exchange) (from to : ℕ) : Type 0 where
  pub no_fault : HasPeerFault after.talk → ⊥
  pub whole : AreWhole after
  pub more : from < to
  pub was : greatest (asked_next before after) (given_in before) ≡ from
  pub is : greatest (asked_next before after) (given_in after) ≡ to
  pub parcels : List Parcel
  pub number : length parcels ≡ to - from
  pub newly : acknowledged_in after ≡ acknowledged_in before ++ parcels

-- the frame that ends with this byte is no fault and acknowledges nothing new
pub record IsSignOfLife (before after : Exchange) : Type 0 where
  pub no_fault : HasPeerFault after.talk → ⊥
  pub whole : AreWhole after
  pub nothing_new : acknowledged_in after ≡ acknowledged_in before

-- the frame is not whole, and no fault yet
pub record IsUnended (after : Exchange) : Type 0 where
  pub no_fault : HasPeerFault after.talk → ⊥
  pub cut : AreWhole after → ⊥

-- the answer to one more byte
abbrev pub IsAnswerTo : Exchange → ℕ → Heard → Type 0
IsAnswerTo e byte More = IsUnended (with_heard e byte)
IsAnswerTo e byte Alive = IsSignOfLife e (with_heard e byte)
IsAnswerTo e byte (Acked from to) = IsAcked e (with_heard e byte) from to
IsAnswerTo e byte (PeerFault at) = HasPeerFault (with_heard e byte).talk × (at ≡ min (length (in_bytes e.talk)) (2 ^ 64 - 1))
