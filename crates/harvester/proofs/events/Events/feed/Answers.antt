use Rattle.harvester.proofs.Gathering.{fed_one}
use Rattle.harvester.proofs.events.Events.feed.Goals as goal

pub returns-clause-fed : goal.returns-clause-fed
returns-clause-fed c = fed_one c.feed.result c.args.piece.now c.feed.new.self c.args.self.now c.feed.ensures.fed c.feed.ensures.place
