use Rattle.run_steps.specs.CarriersEnd.{HasLanePasses}
use Rattle.run_steps.specs.Releasing.{HasNoHarvesters}
use Rattle.run_steps.proofs.Ended.{lane_let_go, lanes_left}
use Rattle.run_steps.proofs.leave.end_lanes.Goals as goal

pub end_lane-requires-clause-passes : goal.end_lane-requires-clause-passes
end_lane-requires-clause-passes g c = lane_let_go HasLanePasses c.lanes.lanes.items c.pop.new.self.items c.in-Some.lane c.in-Some.ensures.items c.lanes.invariant.passes

pub end_lane-requires-clause-no_harvesters : goal.end_lane-requires-clause-no_harvesters
end_lane-requires-clause-no_harvesters g c = lane_let_go HasNoHarvesters c.lanes.lanes.items c.pop.new.self.items c.in-Some.lane c.in-Some.ensures.items c.lanes.invariant.no_harvesters

pub lanes-preserved : goal.lanes-preserved
lanes-preserved g c = record {
  passes = lanes_left HasLanePasses c.lanes.lanes.items c.pop.new.self.items c.in-Some.lane c.in-Some.ensures.items c.lanes.invariant.passes;
  no_harvesters = lanes_left HasNoHarvesters c.lanes.lanes.items c.pop.new.self.items c.in-Some.lane c.in-Some.ensures.items c.lanes.invariant.no_harvesters;
}
