use Rattle.std.proofs.Common.{arith}
use Rattle.ship_core.proofs.Covering.{by_next, stays, goes}
use Rattle.ship_core.proofs.Prefixes.{found_span, goes_by_member}
use Rattle.ship_core.proofs.laws.covered_end_by_spans.Goals as goal

pub returns-clause-stays : goal.returns-clause-stays
returns-clause-stays c = λ spans place none.
    stays spans place (by_next spans place (λ e. e) (λ end some.
    let found = found_span spans place end some in
    absurd (let short = none found.span found.there found.start in omega (arith, short, found.end_is, found.behind))))

pub returns-clause-goes_on : goal.returns-clause-goes_on
returns-clause-goes_on c = λ spans span apart there lt. goes spans span.start span.end (goes_by_member spans span apart there lt)
