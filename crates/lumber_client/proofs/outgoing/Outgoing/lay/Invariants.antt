use Rattle.std.proofs.Common.{◌+◌, length}
use Rattle.lumber_client.specs.Exchange.{payloads_of}
use Rattle.lumber_client.proofs.Laid.{Lays}
use Rattle.lumber_client.proofs.outgoing.Outgoing.lay.Given as goal

abbrev pub invariant-loop : goal.invariant-loop
invariant-loop l = Lays l.fn.self l.self (payloads_of l.parcels.items) l.begun

abbrev pub decreases-loop : goal.decreases-loop
decreases-loop l = l.self.to_lay + length l.self.unlaid
