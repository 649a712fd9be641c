-- What a run that sends leaves (this project's profile of Lumberjack v2): at every moment the payloads that were outstanding
-- as it began without a front of them, which the talk of its one link acknowledges; and what it prints.
use Rattle.std.specs.Prelude.{◌≡◌, ◌⊎◌, ℕ, List, [], ◌∷◌, ◌++◌, length, Option, Some, None}
use Rattle.lumber_frame.specs.Acknowledged.{Acknowledges}
use Rattle.lumber_frame.specs.PeerFault.{HasPeerFault}
use Rattle.outside.specs.Talks.{Talk}
use Rattle.outside.specs.Wires.{Outcome, Refused, Finished}
use Rattle.spool_queue.specs.declared.status.SpoolStatus.{SpoolStatus}
use Rattle.spool_queue.specs.declared.status.SpoolStatus.TheVariants.{Done, Usage, SourceFault, Full, Unreachable, OutFault, TooLong}
use Rattle.spool_queue.specs.Printing.{HasTaken, sent_text}
use Rattle.spool_queue.specs.Putting.{LeavesTheDisk}
use Rattle.spool_queue.specs.Silence.{IsUnanswered, PassesTimeout}
use Rattle.spool_queue.specs.Spool.{IsReadAs}
use Rattle.spool_queue.specs.Standing.{Holds}

-- no link was made, or the connection failed
abbrev pub MakesNoLink : List Outcome → List Outcome → Type 0
MakesNoLink before after = (after ≡ before) ⊎ (after ≡ before ++ Refused ∷ [])

-- one link was made and finished, and its talk acknowledges these payloads
pub record IsOneTalk (before after : List Outcome) (payloads : List (List ℕ)) : Type 0 where
  pub talk : Talk
  pub faults : ℕ
  pub idles : ℕ
  pub finished : after ≡ before ++ Finished talk faults idles ∷ []
  pub acknowledges : Acknowledges talk.pieces payloads

-- the run's one talk acknowledges these payloads, as it is at the end; none are if no link was made
abbrev pub AreAcknowledged : Option (List Outcome) → Option (List Outcome) → List (List ℕ) → Type 0
AreAcknowledged None after payloads = Unit {0}
AreAcknowledged (Some before) None payloads = ⊥
AreAcknowledged (Some before) (Some after) payloads = (MakesNoLink before after × (payloads ≡ [])) ⊎ IsOneTalk before after payloads

abbrev pub IsFrontOf : List (List ℕ) → List (List ℕ) → Type 0
IsFrontOf front list = (rest : List (List ℕ)) × (list ≡ front ++ rest)

-- a front of these payloads is settled, all of which are acknowledged, and the others are left
pub record IsLeftOf (list acknowledged : List (List ℕ)) (image : List ℕ) : Type 0 where
  pub settled : List (List ℕ)
  pub left : List (List ℕ)
  pub parts : list ≡ settled ++ left
  pub only_acknowledged : IsFrontOf settled acknowledged
  pub read_as : IsReadAs image left

-- what a disk holds after a run, and what a sink held before it and holds after it
pub record SendCall : Type 0 where
  pub contents : Option (List ℕ)
  pub written_before : Option (List ℕ)
  pub written_after : Option (List ℕ)

-- a run that began with these payloads settled a front of them, and printed how many and how many are left
pub record Sends (call : SendCall) (list acknowledged : List (List ℕ)) (status : SpoolStatus) : Type 0 where
  pub settled : List (List ℕ)
  pub left : List (List ℕ)
  pub parts : list ≡ settled ++ left
  pub only_acknowledged : IsFrontOf settled acknowledged
  pub all_acknowledged : (status ≡ Done) ⊎ (status ≡ Unreachable) → settled ≡ acknowledged
  pub none_left : status ≡ Done → left ≡ []
  pub held : LeavesTheDisk status → Holds (λ now. IsReadAs now left) call.contents
  pub printed : (status ≡ OutFault → ⊥) → HasTaken call.written_before (sent_text (length settled) (length left)) call.written_after

abbrev pub send_call : Option (List ℕ) → Option (List ℕ) → Option (List ℕ) → SendCall
send_call contents before after = record { contents = contents; written_before = before; written_after = after }

-- one link was made and finished, and its talk is of this kind
pub record IsTalkOf (Is : Talk → Type 0) (before after : List Outcome) : Type 0 where
  pub talk : Talk
  pub faults : ℕ
  pub idles : ℕ
  pub finished : after ≡ before ++ Finished talk faults idles ∷ []
  pub is : Is talk

-- the talk of the run's one link is of this kind, if the wire's outcomes are known
abbrev pub OneTalkIs : (Talk → Type 0) → Option (List Outcome) → Option (List Outcome) → Type 0
OneTalkIs Is None after = Unit {0}
OneTalkIs Is (Some before) None = ⊥
OneTalkIs Is (Some before) (Some after) = IsTalkOf Is before after

abbrev pub HasFault : Talk → Type 0
HasFault talk = HasPeerFault talk.pieces

-- it has a fault of the peer
abbrev pub PeerFails : Option (List Outcome) → Option (List Outcome) → Type 0
PeerFails before after = OneTalkIs HasFault before after

-- the peer did not answer over it, and the clock, by its moments before and now, went on for this long
pub record PeerIsSilent (before after : Option (List Outcome)) (told tells : Option (List ℕ)) : Type 0 where
  pub unanswered : OneTalkIs IsUnanswered before after
  pub passed : PassesTimeout told tells

-- how a run that sends may end after its opening; `SpoolBad` only if the disk has changed by itself
abbrev pub IsSendStatus : SpoolStatus → Type 0
IsSendStatus Usage = ⊥
IsSendStatus SourceFault = ⊥
IsSendStatus (Full line) = ⊥
IsSendStatus (TooLong line) = ⊥
IsSendStatus _ = Unit {0}
