use Rattle.std.proofs.Common.{◌≡◌}
use Rattle.run_tests.proofs.tests.one_lane.rig.Rig.drain_box.Given as goal

abbrev pub invariant-notes : goal.invariant-notes
invariant-notes g l = record {
  queue : l.self.queue ≡ l.initial.self.queue;
  desk : l.self.desk ≡ l.initial.self.desk;
}
