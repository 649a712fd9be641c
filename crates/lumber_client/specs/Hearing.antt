-- What a window has of the peer's bytes since it was made or made again (this project's profile of Lumberjack v2): the
-- beginning of an acknowledgement, and whether a fault was reported.
use Rattle.std.specs.Prelude.{◌≡◌, ℕ, ◌+◌, ◌-◌, ◌^◌, ◌<◌, min, Bool, false, true, List, [], ◌∷◌, ◌++◌, length}
use Rattle.lumber_frame.specs.declared.frame.Frame.TheVariants.{Ack}
use Rattle.lumber_frame.specs.Frame.{frame_bytes}
use Rattle.lumber_frame.specs.PeerFault.{BeginsNoAcknowledgement}
use Rattle.lumber_client.specs.declared.incoming.Taken.{Taken}
use Rattle.lumber_client.specs.declared.incoming.Taken.TheVariants.{Front, Number, Fault}

pub record Hearing : Type 0 where
  -- the bytes of the acknowledgement that is not whole yet
  pub frame : List ℕ
  -- it asks of the oldest window in flight, and not of the last that was acknowledged in full
  pub asks_oldest : Bool
  -- how many bytes were given; the count saturates at 2^64 - 1
  pub given : ℕ
  -- a fault was reported
  pub failed : Bool

abbrev pub nothing_heard : Hearing
nothing_heard = record { frame = []; asks_oldest = false; given = 0; failed = false }

-- how many bytes were given with one more
abbrev pub one_more : ℕ → ℕ
one_more given = min (given + 1) (2 ^ 64 - 1)

-- which window the frame asks of is settled as its first byte comes
abbrev pub asks_with : List ℕ → Bool → Bool → Bool
asks_with [] asks now = now
asks_with (byte ∷ frame) asks now = asks

-- the hearing after one more byte, as it was taken; `oldest` says whether a window is in flight
abbrev pub heard_as : Hearing → ℕ → Bool → Taken → Hearing
heard_as h byte oldest Front = record { frame = h.frame ++ byte ∷ []; asks_oldest = asks_with h.frame h.asks_oldest oldest; given = one_more h.given; failed = false }
heard_as h byte oldest (Number number) = record { frame = []; asks_oldest = asks_with h.frame h.asks_oldest oldest; given = one_more h.given; failed = false }
heard_as h byte oldest Fault = record { frame = h.frame; asks_oldest = asks_with h.frame h.asks_oldest oldest; given = one_more h.given; failed = true }

-- they are the first bytes of an acknowledgement
abbrev pub BeginsAcknowledgement : List ℕ → Type 0
BeginsAcknowledgement [] = Unit {0}
BeginsAcknowledgement (version ∷ []) = version ≡ 0x32
BeginsAcknowledgement (version ∷ kind ∷ bytes) = (version ≡ 0x32) × (kind ≡ 0x41)

-- the frame with this byte begins an acknowledgement, is one, or begins none
abbrev pub IsTakenAs : List ℕ → Taken → Type 0
IsTakenAs bytes Front = (length bytes < 6) × (BeginsNoAcknowledgement bytes → ⊥)
IsTakenAs bytes (Number number) = (number < 2 ^ 32) × (bytes ≡ frame_bytes (Ack number))
IsTakenAs bytes Fault = (length bytes < 6) × BeginsNoAcknowledgement bytes
