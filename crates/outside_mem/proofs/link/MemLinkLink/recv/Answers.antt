use Rattle.std.proofs.Common.{rules}
use Rattle.outside_mem.proofs.Talking.{talk_received}
use Rattle.outside_mem.proofs.link.MemLinkLink.recv.Goals as goal

pub returns-in-Ok-clause-told : goal.returns-in-Ok-clause-told
returns-in-Ok-clause-told c = talk_received _ _ _ _ _ c.in-Ok.ensures.ok (search rules)
