use Rattle.std.proofs.Common.{arith, ap, ◌<◌, ◌≡◌, length}
use Rattle.outside_mem.specs.declared.link.MemLink.{MemLink}
use Rattle.outside_mem.specs.declared.tail.MemTail.{MemTail}
use Rattle.outside_mem.specs.declared.wire.MemWire.{MemWire}
use Rattle.rounds.specs.declared.crew.Crew.{Crew}
use Rattle.run_tests.proofs.tests.reopening.open_in_a_lane.Goals as goal

pub open_again-result-requires : goal.open_again-result-requires
open_again-result-requires c = record {
  settings_in_range = c.requires.settings;
  in_range = c.requires.listed;
  input = omega (arith, c.if-as_slice-listed.false, ap length c.as_slice.ensures);
  moment = omega arith;
  some_lanes = omega (arith, ap (λ (crew : Crew MemTail MemWire MemLink). length crew.lanes.items) c.new-crew.ensures, c.in_ok-lanes.ensures.many);
  start = omega (arith, c.if-listed-start.false);
}
