use Rattle.std.proofs.Common.{Some, refl, ap, ◌∙◌}
use Rattle.outside_mem.specs.declared.link_history.LinkHistory.{LinkHistory}
use Rattle.outside_mem.specs.LinkHistories.{talk_of}
use Rattle.outside_mem.proofs.Talking.{talk_fresh}
use Rattle.outside_mem.proofs.wire.MemWireWire.connect.Goals as goal

pub returns-in-Ok-clause-told : goal.returns-in-Ok-clause-told
returns-in-Ok-clause-told c =
    (ap (λ (h : LinkHistory). Some (talk_of h)) c.with_talk.ensures.history ∙ talk_fresh _ c.in-Ok.ensures.fresh, refl)
