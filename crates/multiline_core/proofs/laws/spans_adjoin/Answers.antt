use Rattle.std.proofs.Common.{◌≡◌, true}
use Rattle.multiline_core.proofs.Natural.{partition_adjoins}
use Rattle.multiline_core.proofs.laws.spans_adjoin.Goals as goal

pub returns : goal.returns
returns c = λ lines rule licensed bytes start spans in_range p.
    partition_adjoins c.lines_adjoin.ensures lines rule in_range bytes (λ place. licensed place ≡ true) start spans p
