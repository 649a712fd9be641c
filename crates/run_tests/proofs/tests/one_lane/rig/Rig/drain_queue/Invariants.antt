use Rattle.std.proofs.Common.{◌≡◌}
use Rattle.run_tests.proofs.tests.one_lane.rig.Rig.drain_queue.Given as goal

abbrev pub invariant-parcels : goal.invariant-parcels
invariant-parcels g l = record {
  queue : l.self.queue ≡ l.initial.self.queue;
  desk : l.self.desk ≡ l.initial.self.desk;
}
