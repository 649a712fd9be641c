use Rattle.lanes.specs.Laning.{laning}
use Rattle.run_tests.specs.Ready.{IsReady}
use Rattle.run_tests.proofs.tests.one_lane.many_rounds.admit_all.Given as goal

abbrev pub invariant-files : goal.invariant-files
invariant-files g l = IsReady g.T.Tail.numbers g.T.Tail.told l.rig.queue.id l.rig.desk.id (laning l.lane)
