use Rattle.std.proofs.Common.{◌≡◌}
use Rattle.lanes.specs.Laning.{laning}
use Rattle.run_tests.specs.Ready.{IsReady}
use Rattle.run_tests.proofs.tests.one_lane.many_rounds.rounds.Given as goal

abbrev pub invariant-rounds : goal.invariant-rounds
invariant-rounds g l = record {
  queue : l.rig.queue ≡ l.initial.rig.queue;
  desk : l.rig.desk ≡ l.initial.rig.desk;
  ready : IsReady g.T.Tail.numbers g.T.Tail.told l.initial.rig.queue.id l.initial.rig.desk.id (laning l.lane);
}
