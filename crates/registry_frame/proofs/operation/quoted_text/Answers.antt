use Rattle.registry_frame.proofs.Escapes.{text_quoted}
use Rattle.registry_frame.proofs.operation.quoted_text.Goals as goal

pub returns-in-Ok-clause-spelled : goal.returns-in-Ok-clause-spelled
returns-in-Ok-clause-spelled c =
    rw (← c.as_str.ensures) (text_quoted _ c.in-Ok.ensures.events.0 _ c.in-Ok.ensures.events.1 c.in-Ok.ensures.events.2)
