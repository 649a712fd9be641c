use Rattle.harvester.proofs.HasToldGiven.{renamed}
use Rattle.harvester.proofs.harvester.Harvester.rename.Goals as goal

pub returns-clause-renamed : goal.returns-clause-renamed
returns-clause-renamed g c = λ h has. renamed g.T.Tail.numbers g.T.Tail.told h _ has c.rename.new.self c.args.path (c.rename.ensures.stands h has.held)
