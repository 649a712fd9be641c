-- What a talk acknowledges if each acknowledgement asks of the last window that was wholly out before its first byte
-- came (Lumberjack v2, a client with one window in flight). With several in flight `Acknowledged.antt` and
-- `PeerFault.antt` hold in its place; a law says when both are the same.
use Rattle.std.specs.Prelude.{◌≡◌, ◌⊎◌, ℕ, ◌+◌, ◌*◌, ◌<◌, List, [], ◌∷◌, length, drop, slice_index, nat_le, if◌then◌else◌}
use Rattle.wire_base.specs.declared.talk.Piece.{Piece}
use Rattle.lumber_frame.specs.Talk.{out_bytes, in_bytes, out_before}
use Rattle.lumber_frame.specs.Window.{AreWindows}
use Rattle.lumber_frame.specs.Acknowledged.{Answer, acknowledgements, count_at, payloads_by, whole_within}
use Rattle.lumber_frame.specs.PeerFault.{BeginsNoAcknowledgement}

-- the answers of acknowledgements, the first of which begins at this place, up to the first fault
abbrev pub answers_of_last : List (List (List ℕ)) → List Piece → ℕ → List ℕ → List Answer
answers_of_last windows talk place [] = []
answers_of_last windows talk place (number ∷ numbers) =
    if nat_le number (count_at windows (whole_within windows (out_before talk place)))
    then record { window = whole_within windows (out_before talk place); number = number } ∷ answers_of_last windows talk (place + 6) numbers
    else []

-- the talk acknowledges these payloads, by windows and places
pub record AcknowledgesByLast (talk : List Piece) (payloads : List (List ℕ)) : Type 0 where
  pub windows : List (List (List ℕ))
  pub sent : AreWindows (out_bytes talk) windows
  pub are : payloads ≡ payloads_by (answers_of_last windows talk 0 (acknowledgements (in_bytes talk))) 1 windows

-- the acknowledgement at this index, from 0 on, has a number above the count; each before it takes six bytes
pub record IsAboveLastCount (windows : List (List (List ℕ))) (talk : List Piece) (index : ℕ) : Type 0 where
  pub there : index < length (acknowledgements (in_bytes talk))
  pub above : count_at windows (whole_within windows (out_before talk (6 * index))) < slice_index (acknowledgements (in_bytes talk)) index

-- an acknowledgement has a number above the count, or bytes that begin none come after the last of them
pub record HasFaultByLast (talk : List Piece) : Type 0 where
  pub windows : List (List (List ℕ))
  pub sent : AreWindows (out_bytes talk) windows
  pub fault : ((index : ℕ) × IsAboveLastCount windows talk index) ⊎ BeginsNoAcknowledgement (drop (6 * length (acknowledgements (in_bytes talk))) (in_bytes talk))
