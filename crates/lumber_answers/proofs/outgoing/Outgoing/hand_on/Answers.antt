use Rattle.std.proofs.Common.{inl}
use Rattle.lumber_answers.proofs.Sending.{none_sent}
use Rattle.lumber_answers.proofs.outgoing.Outgoing.hand_on.Goals as goal

pub returns-in-Err-clause-fails : goal.returns-in-Err-clause-fails
returns-in-Err-clause-fails g c = inl (record { written = c.in-Err.ensures.front; sent = none_sent _ })
