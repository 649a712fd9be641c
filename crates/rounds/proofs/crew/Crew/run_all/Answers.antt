use Rattle.std.proofs.Common.{All, List, subst, sym}
use Rattle.lanes.specs.Laning.{laning}
use Rattle.lanes.specs.declared.lane.Lane.{Lane}
use Rattle.rounds.specs.Crewed.{lanings}
use Rattle.rounds.specs.Pairs.{Pairs}
use Rattle.rounds.specs.Running.{CarrierHasRun, IsCarrierReady, IsLaneReady, LaneHasRun}
use Rattle.rounds.specs.Words.{link_words, tail_words, wire_words}
use Rattle.rounds.specs.declared.carrier.Carrier.{Carrier}
use Rattle.rounds.proofs.Having.{carriers_ready}
use Rattle.rounds.proofs.Slices.{mapped_in, paired_in}
use Rattle.rounds.proofs.crew.Crew.run_all.Goals as goal

pub run_all-requires-clause-carriers_ready : goal.run_all-requires-clause-carriers_ready
run_all-requires-clause-carriers_ready g c κs within =
    let queue = c.args.shift.outlets.queue.now.id in
    let desk = c.args.shift.outlets.desk.now.id in
    subst (λ (carriers : List (Carrier g.row.W.Denot g.row.L.Denot)). All (IsCarrierReady queue desk) carriers) (sym c.as_mut_slice-2.ensures.value)
    (carriers_ready queue desk c.args.self.now.carriers.items c.requires.ready.able.have.carriers_have)

pub run_all-requires-clause-lanes_ready : goal.run_all-requires-clause-lanes_ready
run_all-requires-clause-lanes_ready g c κs within =
    let queue = c.args.shift.outlets.queue.now.id in
    let desk = c.args.shift.outlets.desk.now.id in
    subst (λ (lanes : List (Lane g.row.T.Denot)). All (IsLaneReady (tail_words g.T.Tail.numbers g.T.Tail.told g.T.Tail.faults) queue desk) (lanings lanes)) (sym c.as_mut_slice.ensures.value)
    c.requires.ready.able.lanes

pub returns-clause-others : goal.returns-clause-others
returns-clause-others g c =
    let crew = c.args.self.now in
    let shift = c.args.shift in
    let new = c.run_all.new in
    let lane_ran = LaneHasRun (tail_words g.T.Tail.numbers g.T.Tail.told g.T.Tail.faults) shift.outlets.queue.now.capacity shift.outlets.desk.now.capacity shift.when in
    let carrier_ran =
    CarrierHasRun (link_words g.L.Link.told g.L.Link.faults g.L.Link.idles) (wire_words g.W.Wire.outcomes g.W.Wire.open_links g.W.Wire.faults g.W.Wire.idles) shift.outlets.desk.now.capacity shift.when.now in
    record {
      lanes = mapped_in lane_ran laning crew.lanes new.lanes
          (subst (λ (lanes : List (Lane g.row.T.Denot)). Pairs lane_ran (lanings lanes) (lanings new.lanes)) c.as_mut_slice.ensures.value c.run_all.ensures.lanes);
      carriers = paired_in carrier_ran crew.carriers new.carriers
          (subst (λ (carriers : List (Carrier g.row.W.Denot g.row.L.Denot)). Pairs carrier_ran carriers new.carriers) c.as_mut_slice-2.ensures.value c.run_all.ensures.carriers);
    }
