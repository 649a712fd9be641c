-- One link of a receiver's run: how it is accepted, served and finished (this project's profile).
use Rattle.std.specs.Prelude.{◌≡◌, ◌≢◌, List, [], ◌∷◌, Option, Some, None}
use Rattle.outside.specs.Talks.{Talk, no_talk}
use Rattle.lumber_server.specs.Ports.{Finished}
use Rattle.lumber_server.specs.Run.{AreEarlierEnded, IsOneLinksEnd, RunCall, ServedLink, ServesLinks}
use Rattle.lumber_server.specs.declared.status.SinkStatus.{SinkStatus}
use Rattle.lumber_server.specs.declared.status.SinkStatus.TheVariants.{Done, Usage}

-- what is known of a link that was accepted by a port of which this is known
abbrev pub LinkBegins : Option (List Finished) → Option Talk → Type 0
LinkBegins None talk = talk ≡ None
LinkBegins (Some links) talk = talk ≡ Some no_talk

-- one link more was served, and the run goes on
pub record ServesOne (call : RunCall) : Type 0 where
  pub link : ServedLink
  pub serves : ServesLinks 0 call (link ∷ [])
  pub end : IsOneLinksEnd link.served

-- the run ends, after one more link or none
pub record EndsRun (call : RunCall) (status : SinkStatus) : Type 0 where
  pub links : List ServedLink
  pub serves : ServesLinks 1 call links
  pub earlier : AreEarlierEnded links
  pub not_done : status ≢ Done
  pub not_usage : status ≢ Usage

abbrev pub IsNextServed : RunCall → Option SinkStatus → Type 0
IsNextServed call None = ServesOne call
IsNextServed call (Some status) = EndsRun call status
