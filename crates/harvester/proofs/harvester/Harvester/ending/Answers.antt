use Rattle.harvester.proofs.HasToldGiven.{may_end}
use Rattle.harvester.proofs.harvester.Harvester.ending.Goals as goal

pub returns-clause-ends : goal.returns-clause-ends
returns-clause-ends g c = λ h has. may_end g.T.Tail.numbers g.T.Tail.told h _ has c.ending.new.self c.args.forget (c.ending.ensures.stands h has.held)
