use Rattle.harvester.proofs.Lasting.{all_through}
use Rattle.harvester.proofs.reader.Reader.gather.Goals as goal

pub returns-clause-all : goal.returns-clause-all
returns-clause-all c = all_through c.find.result c.args.self.now c.feed.new.self c.find.new.self c.feed.ensures.stands c.find.ensures.all
