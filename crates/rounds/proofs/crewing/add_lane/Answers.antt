use Rattle.rounds.proofs.Making.{lane_added}
use Rattle.rounds.proofs.crewing.add_lane.Goals as goal

pub returns-clause-adds : goal.returns-clause-adds
returns-clause-adds g c = lane_added c.args.put c.args.post c.args.lanes.now.items c.push_reserved.new.self.items c.new.result c.push_reserved.ensures.items c.new.ensures
