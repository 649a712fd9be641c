-- For private clauses: payloads that are sent over one link, and settled as its talk acknowledges them.
use Rattle.std.specs.Prelude.{◌≡◌, ◌≢◌, ℕ, ◌+◌, ◌≤◌, Bool, true, false, List, [], ◌∷◌, ◌++◌, length, take, drop, Option, Some, None, Err, Result, OnErr, OnOk}
use Rattle.lumber_client.specs.Exchange.{Exchange, payloads_of, with_talk}
use Rattle.lumber_client.specs.Held.{Held}
use Rattle.lumber_client.specs.Standing.{StandsFor}
use Rattle.lumber_frame.specs.Acknowledged.{Acknowledges}
use Rattle.lumber_frame.specs.PeerFault.{HasPeerFault}
use Rattle.outside.specs.Counts.{Rose}
use Rattle.outside.specs.DiskImages.{LeavesOnly, Only}
use Rattle.outside.specs.Talks.{Talk}
use Rattle.outside.specs.Wires.{Outcome}
use Rattle.outside.specs.declared.disk.Disk.{Ghosts as DiskGhosts}
use Rattle.settled_parcels.specs.Handing.{with_all_handed}
use Rattle.wire_base.specs.declared.talk.Piece.{Piece}
use Rattle.wire_base.specs.declared.talk.Piece.TheVariants.{In}
use Rattle.spool_queue.specs.declared.spool.Spool.{Spool}
use Rattle.spool_queue.specs.declared.spool_error.SpoolError.TheVariants.{Bad, DiskFault, TooLong, Full, Closed, NoMemory}
use Rattle.spool_queue.specs.declared.stop.Stop.{Stop}
use Rattle.spool_queue.specs.declared.stop.Stop.TheVariants as stop
use Rattle.spool_queue.specs.declared.walk.Walk.{Walk}
use Rattle.spool_queue.specs.Log.{Log}
use Rattle.spool_queue.specs.Sent.{AreAcknowledged, HasFault}
use Rattle.spool_queue.specs.Silence.{IsUnanswered, PassesTimeout, moments_since}
use Rattle.spool_queue.specs.Spool.{IsReadAs}
use Rattle.spool_queue.specs.Walking.{IsWalkOf}
use Rattle.spool_queue.specs.Standing.{HoldsList, IsClosed, KeepsPlaces, count_of}

-- ---- a disk

-- some of the first so many payloads are settled
abbrev pub IsDropped : ℕ → List (List ℕ) → List ℕ → Type 0
IsDropped most list image = (count : ℕ) × (count ≤ most) × IsReadAs image (drop count list)

-- so many payloads were settled, and it was tried to settle so many in all
pub record Settles {D : Type 0} (disk : DiskGhosts D) (old new : D) (was now : Spool) (done tried : ℕ) : Type 0 where
  pub counted : count_of now + done ≡ count_of was
  pub within : done ≤ tried
  pub whole : tried ≡ done → (list : List (List ℕ)) → HoldsList was list (disk.contents old) → HoldsList now (drop done list) (disk.contents new)
  pub durable : tried ≡ done → Only (disk.contents old) (disk.images old) → Only (disk.contents new) (disk.images new)
  pub still_open : tried ≡ done → ¬ (IsClosed was) → ¬ (IsClosed now)
  pub crashes : Only (disk.contents old) (disk.images old) → (list : List (List ℕ)) → HoldsList was list (disk.contents old) → LeavesOnly disk.moment disk.images_since old new (IsDropped tried list)
  pub faults : disk.faults old ≤ disk.faults new

-- ---- a talk

-- a link of which its talk was known as it was made has had these pieces
abbrev pub HasPieces : Option Talk → Option Talk → List Piece → Type 0
HasPieces None told pieces = Unit {0}
HasPieces (Some began) None pieces = ⊥
HasPieces (Some began) (Some talk) pieces = talk.pieces ≡ pieces

-- the window stands for what went over the link, which is its first
pub record Talks (window : Held) (began told : Option Talk) (e : Exchange) : Type 0 where
  pub stands : StandsFor window e
  pub pieces : HasPieces began told e.talk
  pub first : e.earlier ≡ []

-- the talk with these bytes as one piece
abbrev pub with_bytes : List Piece → List ℕ → List Piece
with_bytes talk [] = talk
with_bytes talk (byte ∷ bytes) = talk ++ In (byte ∷ bytes) ∷ []

-- the window was given these bytes, up to the first that makes a fault
pub record HearsFault (window : Held) (e : Exchange) (bytes : List ℕ) : Type 0 where
  pub front : List ℕ
  pub byte : ℕ
  pub rest : List ℕ
  pub are : bytes ≡ (front ++ byte ∷ []) ++ rest
  pub stands : StandsFor window (with_talk e (with_bytes e.talk (front ++ byte ∷ [])))
  pub fault : HasPeerFault (with_bytes e.talk (front ++ byte ∷ []))

abbrev pub Hears : Held → Exchange → List ℕ → Bool → Type 0
Hears window e bytes true = StandsFor window (with_talk e (with_bytes e.talk bytes))
Hears window e bytes false = HearsFault window e bytes

-- the talk of the link acknowledges these payloads, if its talk was known as it was made
abbrev pub TalkAcknowledges : Option Talk → Option Talk → List (List ℕ) → Type 0
TalkAcknowledges None told payloads = Unit {0}
TalkAcknowledges (Some began) None payloads = ⊥
TalkAcknowledges (Some began) (Some talk) payloads = Acknowledges talk.pieces payloads

-- ---- a window

-- the talk went on, and the same was handed out
pub record GoesOut (window : Held) (began told : Option Talk) (e : Exchange) : Type 0 where
  pub next : Exchange
  pub talks : Talks window began told next
  pub handed : next.handed ≡ e.handed

-- the peer acknowledged so many of a window's parcels in order, and they were settled; at the end all of them are
pub record SettlesWindow {D : Type 0} (disk : DiskGhosts D) (old new : D) (was now : Spool) (before after : Held) (told later : Option Talk) (answer : Result Unit Stop) : Type 0 where
  pub done : ℕ
  pub tried : ℕ
  pub settles : Settles disk old new was now done tried
  pub exact : answer ≢ Err (stop.Spool DiskFault) → tried ≡ done
  pub few : tried ≤ length before.parcels
  pub all : OnOk answer (done ≡ length before.parcels)
  pub places : OnOk answer (KeepsPlaces was (disk.contents old) (disk.contents new))
  pub goes_on : OnOk answer ((began : Option Talk) (e : Exchange) → Talks before began told e → (next : Exchange) × Talks after began later next × (next.handed ≡ e.handed ++ before.parcels))
  pub ends : OnErr answer ((began : Option Talk) (e : Exchange) → Talks before began told e → TalkAcknowledges began later (payloads_of (e.handed ++ take tried before.parcels)))

-- the bytes that came over a link were given to a window, up to the first fault of the peer; so many parcels that are
-- acknowledged by then are handed out, and were settled
pub record SettlesSome {D : Type 0} (disk : DiskGhosts D) (old new : D) (was now : Spool) (before after : Held) (bytes : List ℕ) (answer : Result Unit Stop) : Type 0 where
  pub done : ℕ
  pub tried : ℕ
  pub settles : Settles disk old new was now done tried
  pub exact : answer ≢ Err (stop.Spool DiskFault) → tried ≡ done
  pub few : tried ≤ length before.parcels
  pub parcels : after.parcels ≡ drop tried before.parcels
  pub places : OnOk answer (KeepsPlaces was (disk.contents old) (disk.contents new))
  pub goes_on : OnOk answer ((e : Exchange) → StandsFor before e → e.earlier ≡ [] → StandsFor after (with_all_handed (with_talk e (with_bytes e.talk bytes)) (take tried before.parcels)))
  pub ends : (e : Exchange) → StandsFor before e → e.earlier ≡ [] → Acknowledges (e.talk ++ In bytes ∷ []) (payloads_of (e.handed ++ take tried before.parcels))
  pub unreachable : answer ≡ Err stop.Unreachable → (e : Exchange) → StandsFor before e → HasPeerFault (e.talk ++ In bytes ∷ [])

-- why a window was not settled: the disk failed, whose count of faults rose, or the peer is not reached
abbrev pub IsSettlingStop : ℕ → ℕ → Stop → Type 0
IsSettlingStop before now stop.Source = ⊥
IsSettlingStop before now stop.Unreachable = Unit {0}
IsSettlingStop before now (stop.Spool (Bad at)) = ⊥
IsSettlingStop before now (stop.Spool DiskFault) = Rose before now
IsSettlingStop before now (stop.Spool TooLong) = ⊥
IsSettlingStop before now (stop.Spool Full) = ⊥
IsSettlingStop before now (stop.Spool Closed) = ⊥
IsSettlingStop before now (stop.Spool NoMemory) = ⊥

-- why a window was not filled
abbrev pub IsReadStop : ℕ → ℕ → Stop → Type 0
IsReadStop before now stop.Source = ⊥
IsReadStop before now stop.Unreachable = ⊥
IsReadStop before now (stop.Spool (Bad at)) = Unit {0}
IsReadStop before now (stop.Spool DiskFault) = Rose before now
IsReadStop before now (stop.Spool TooLong) = ⊥
IsReadStop before now (stop.Spool Full) = ⊥
IsReadStop before now (stop.Spool Closed) = ⊥
IsReadStop before now (stop.Spool NoMemory) = Unit {0}

-- the window holds the first of these payloads, and the walk is after them
pub record IsFilledWith (bytes : List ℕ) (list : List (List ℕ)) (window : Held) (walk : Walk) : Type 0 where
  pub first : payloads_of window.parcels ≡ take (length window.parcels) list
  pub log : Log
  pub walked : IsWalkOf bytes walk log

-- ---- a run

-- so many of the payloads were acknowledged over a link, and settled
pub record SendsOver {D : Type 0} (disk : DiskGhosts D) (old new : D) (was now : Spool) (began told : Option Talk) (answer : Result Unit Stop) : Type 0 where
  pub done : ℕ
  pub tried : ℕ
  pub settles : Settles disk old new was now done tried
  pub exact : answer ≢ Err (stop.Spool DiskFault) → tried ≡ done
  pub acknowledged : (list : List (List ℕ)) → HoldsList was list (disk.contents old) → TalkAcknowledges began told (take tried list)

-- and so in a run
pub record SendsAll {D : Type 0} (disk : DiskGhosts D) (old new : D) (was now : Spool) (before after : Option (List Outcome)) (answer : Result Unit Stop) : Type 0 where
  pub done : ℕ
  pub tried : ℕ
  pub settles : Settles disk old new was now done tried
  pub exact : answer ≢ Err (stop.Spool DiskFault) → tried ≡ done
  pub acknowledged : (list : List (List ℕ)) → HoldsList was list (disk.contents old) → AreAcknowledged before after (take tried list)

-- ---- causes

-- why a run over a link ended before all was sent
abbrev pub IsSendingStop : ℕ → ℕ → Stop → Type 0
IsSendingStop before now stop.Source = ⊥
IsSendingStop before now stop.Unreachable = Unit {0}
IsSendingStop before now (stop.Spool (Bad at)) = Unit {0}
IsSendingStop before now (stop.Spool DiskFault) = Rose before now
IsSendingStop before now (stop.Spool TooLong) = ⊥
IsSendingStop before now (stop.Spool Full) = ⊥
IsSendingStop before now (stop.Spool Closed) = ⊥
IsSendingStop before now (stop.Spool NoMemory) = Unit {0}

-- the talk of a link whose talk was known as it was made is of this kind
abbrev pub LinkTalkIs : (Talk → Type 0) → Option Talk → Option Talk → Type 0
LinkTalkIs Is None told = Unit {0}
LinkTalkIs Is (Some began) None = ⊥
LinkTalkIs Is (Some began) (Some talk) = Is talk

-- it has a fault of the peer
abbrev pub HasTalkFault : Option Talk → Option Talk → Type 0
HasTalkFault began told = LinkTalkIs HasFault began told

-- the peer did not answer over it, and the clock went on for so long
abbrev pub IsSilentOver : Option Talk → Option Talk → Option (List ℕ) → Option (List ℕ) → Type 0
IsSilentOver began told before after = LinkTalkIs IsUnanswered began told × PassesTimeout before after

-- ---- a clock

-- what it reported stays the front of what it reports
abbrev pub ClockGoesOn : Option (List ℕ) → Option (List ℕ) → Type 0
ClockGoesOn None after = Unit {0}
ClockGoesOn (Some before) after = (more : List ℕ) × (after ≡ Some (before ++ more))

pub record StandsAmong (moments : List ℕ) (moment : ℕ) : Type 0 where
  pub before : List ℕ
  pub behind : List ℕ
  pub are : moments ≡ before ++ moment ∷ behind

-- the moment is one of those since, if the clock's moments are known
abbrev pub HasGiven : Option (List ℕ) → Option (List ℕ) → ℕ → Type 0
HasGiven None after moment = Unit {0}
HasGiven (Some before) None moment = ⊥
HasGiven (Some before) (Some after) moment = StandsAmong (moments_since before after) moment
