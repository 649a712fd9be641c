use Rattle.multiline_core.proofs.Natural.{natural_has_bytes, flushed_has_bytes}
use Rattle.multiline_core.proofs.laws.no_event_is_empty.Goals as goal

pub returns-clause-natural : goal.returns-clause-natural
returns-clause-natural c = λ lines rule bytes start end in_range n.
    natural_has_bytes c.lines_adjoin.ensures lines rule in_range bytes start end n

pub returns-clause-flushed : goal.returns-clause-flushed
returns-clause-flushed c = λ lines rule bytes start end in_range f.
    flushed_has_bytes c.lines_adjoin.ensures lines rule in_range bytes start end f
