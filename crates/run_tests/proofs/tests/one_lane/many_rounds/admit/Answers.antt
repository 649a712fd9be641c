use Rattle.lanes.specs.Laning.{laning}
use Rattle.run_tests.proofs.Readies.{admitted_ready}
use Rattle.run_tests.proofs.tests.one_lane.many_rounds.admit.Goals as goal

pub returns-in-Ok-admit : goal.returns-in-Ok-admit
returns-in-Ok-admit g c =
    admitted_ready g.T.Tail.numbers g.T.Tail.told g.T.Tail.faults c.args.rig.now.queue.id c.args.rig.now.desk.id (laning c.args.lane.now) (laning c.admit.new.self) c.in-Ok.harvester c.in-Ok-admit.ensures.admitted c.in-Ok.ensures c.requires
