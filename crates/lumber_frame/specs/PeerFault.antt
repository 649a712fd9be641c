-- A peer's fault of a talk (this project's profile of Lumberjack v2). What is received is read as frames from the first
-- byte on. A frame that is no acknowledgement is a fault, which shows by one of its first two bytes as it comes; so is a
-- number above the count of the window that the acknowledgement asks of, or above 0 if no window was wholly out. The
-- beginning of an acknowledgement is no fault.
use Rattle.std.specs.Prelude.{◌≡◌, ◌≢◌, ◌⊎◌, ℕ, ◌*◌, ◌<◌, ◌≤◌, List, [], length, take, drop, slice_index}
use Rattle.wire_base.specs.declared.talk.Piece.{Piece}
use Rattle.lumber_frame.specs.Talk.{out_bytes, in_bytes, out_before}
use Rattle.lumber_frame.specs.Window.{AreWindows}
use Rattle.lumber_frame.specs.Acknowledged.{acknowledgements, answers, asked, count_at}
use Rattle.lumber_frame.specs.Fault.{IsOtherVersion}

-- the bytes begin no acknowledgement however they go on: the first is not `2`, or the second is there and is not `A`
abbrev pub BeginsNoAcknowledgement : List ℕ → Type 0
BeginsNoAcknowledgement bytes = IsOtherVersion bytes ⊎ ((2 ≤ length bytes) × (slice_index bytes 1 ≢ 0x41))

-- the acknowledgement at this index, from 0 on, is the first with a number above the count; each before it takes six
-- bytes and has its answer
pub record IsAboveCount (windows : List (List (List ℕ))) (talk : List Piece) (index : ℕ) : Type 0 where
  pub there : index < length (acknowledgements (in_bytes talk))
  pub earlier : length (answers windows talk [] 0 (take index (acknowledgements (in_bytes talk)))) ≡ index
  pub above : count_at windows (asked windows (answers windows talk [] 0 (take index (acknowledgements (in_bytes talk)))) (out_before talk (6 * index)))
      < slice_index (acknowledgements (in_bytes talk)) index

-- an acknowledgement has a number above the count, or bytes that begin none come after the last of them
pub record HasPeerFault (talk : List Piece) : Type 0 where
  pub windows : List (List (List ℕ))
  pub sent : AreWindows (out_bytes talk) windows
  pub fault : ((index : ℕ) × IsAboveCount windows talk index) ⊎ BeginsNoAcknowledgement (drop (6 * length (acknowledgements (in_bytes talk))) (in_bytes talk))
