-- What a receiver's run comes to: the links that it served one after the other (this project's profile).
use Rattle.std.specs.Prelude.{◌≡◌, ℕ, ◌+◌, ◌-◌, ◌≤◌, List, [], ◌∷◌, ◌++◌, length, map, Option, Some, None}
use Rattle.std.specs.List.{AllByRecursion, flat_map}
use Rattle.outside.specs.Counts.{IsAtEnd, Rose}
use Rattle.lumber_frame.specs.Talk.{in_bytes}
use Rattle.lumber_answers.specs.Changes.{SinkTakes, received_pieces}
use Rattle.lumber_server.specs.Ports.{Finished}
use Rattle.lumber_server.specs.Promise.{KeepsPromise}
use Rattle.lumber_server.specs.Serving.{IsWholeAt, StopsAs, exchange_of}
use Rattle.lumber_server.specs.Words.{Asked, IsAskedOf}
use Rattle.lumber_server.specs.declared.served.Served.{Served}
use Rattle.lumber_server.specs.declared.served.Served.TheVariants.{Ended, SendFault, OutFault, Bad, Stopped, NoMemory}
use Rattle.lumber_server.specs.declared.status.SinkStatus.{SinkStatus}
use Rattle.lumber_server.specs.declared.status.SinkStatus.TheVariants.{Done}

-- one link: how it was finished, what was written of it, and how its serving ended
pub record ServedLink : Type 0 where
  pub finished : Finished
  pub bytes : List ℕ
  pub served : Served

-- a link that its peer ended had a fault, and one that a failed acknowledgement ended a failed send
abbrev pub IsEndCaused : ℕ → ℕ → Served → Type 0
IsEndCaused faults failed_sends Ended = Rose 0 faults
IsEndCaused faults failed_sends SendFault = Rose 0 failed_sends
IsEndCaused faults failed_sends OutFault = Unit {0}
IsEndCaused faults failed_sends (Bad place) = Unit {0}
IsEndCaused faults failed_sends Stopped = Unit {0}
IsEndCaused faults failed_sends NoMemory = Unit {0}

-- the link was served as `serve` promises
pub record IsServedWell (link : ServedLink) : Type 0 where
  pub keeps : KeepsPromise (exchange_of link.finished.talk.pieces link.bytes)
  pub whole : IsWholeAt link.served (exchange_of link.finished.talk.pieces link.bytes)
  pub stop : StopsAs (in_bytes link.finished.talk.pieces) link.served
  pub caused : IsEndCaused link.finished.faults link.finished.failed_sends link.served

-- the end of only one link
abbrev pub IsOneLinksEnd : Served → Type 0
IsOneLinksEnd Ended = Unit {0}
IsOneLinksEnd SendFault = Unit {0}
IsOneLinksEnd OutFault = ⊥
IsOneLinksEnd (Bad place) = Unit {0}
IsOneLinksEnd Stopped = ⊥
IsOneLinksEnd NoMemory = ⊥

-- the port finished these links
abbrev pub PortFinishes : Option (List Finished) → List ServedLink → Option (List Finished) → Type 0
PortFinishes None links after = after ≡ None
PortFinishes (Some finished) links after = after ≡ Some (finished ++ map (λ link. link.finished) links)

-- how often the bell may have been asked for these links: twice, for each piece and for each idling
abbrev pub questions_for : List ServedLink → ℕ
questions_for [] = 0
questions_for (link ∷ links) = (2 + received_pieces link.finished.talk.pieces + link.finished.idles) + questions_for links

-- what is known of the port, the sink and the bell before a run and after it
pub record RunCall : Type 0 where
  pub finished_before : Option (List Finished)
  pub finished_after : Option (List Finished)
  pub written_before : Option (List ℕ)
  pub written_after : Option (List ℕ)
  pub questions_before : ℕ
  pub questions_after : ℕ
  pub idles_before : ℕ
  pub idles_after : ℕ

-- the links that were served, one after the other; after them the bell may have been asked so many times more
pub record ServesLinks (more : ℕ) (call : RunCall) (links : List ServedLink) : Type 0 where
  pub each : AllByRecursion IsServedWell links
  pub finished : PortFinishes call.finished_before links call.finished_after
  pub written : SinkTakes call.written_before (flat_map (λ link. link.bytes) links) call.written_after
  pub questions : ¬ (IsAtEnd call.idles_after) → AllByRecursion (λ link. ¬ (IsAtEnd link.finished.idles)) links →
      call.questions_after ≤ call.questions_before + ((call.idles_after - call.idles_before) + more + questions_for links)

-- each link but the last one ended by itself, and the run went on
abbrev pub AreEarlierEnded : List ServedLink → Type 0
AreEarlierEnded [] = Unit {0}
AreEarlierEnded (link ∷ []) = Unit {0}
AreEarlierEnded (link ∷ (next ∷ links)) = IsOneLinksEnd link.served × AreEarlierEnded (next ∷ links)

-- all the links that the arguments ask for were served, each to an end of its own
pub record ServesAll (words : List (List ℕ)) (links : List ServedLink) : Type 0 where
  pub asked : Asked
  pub is : IsAskedOf words (Some asked)
  pub count : length links ≡ asked.links
  pub ends : AllByRecursion (λ link. IsOneLinksEnd link.served) links

pub record Receives (call : RunCall) (words : List (List ℕ)) (status : SinkStatus) : Type 0 where
  pub links : List ServedLink
  pub serves : ServesLinks 1 call links
  pub earlier : AreEarlierEnded links
  pub done : status ≡ Done → ServesAll words links
