use denote.Param.Send.{sendable}
use Rattle.std.proofs.Common.{rules}
use Rattle.std.proofs.Crossing.{crosses}
use Rattle.lanes.specs.Laning.{laning}
use Rattle.rounds.specs.Running.{IsLaneReady}
use Rattle.rounds.specs.Words.{tail_words}
use Rattle.rounds.proofs.Crossing.{lane_send}
use Rattle.rounds.proofs.Each.{each_mapped, pairs_mapped}
use Rattle.rounds.proofs.running.run_both.Goals as goal

-- after all lanes, if there is one worker alone
pub run_parts-requires-send-A : goal.run_parts-requires-send-A
run_parts-requires-send-A g c κs within = search (rules, sendable, crosses, lane_send) depth 40

pub run_parts-requires-clause-lanes : goal.run_parts-requires-clause-lanes
run_parts-requires-clause-lanes g c κs within = λ i lane inside. each_mapped (IsLaneReady (tail_words g.T.Tail.numbers g.T.Tail.told g.T.Tail.faults) c.args.shift.outlets.queue.now.id c.args.shift.outlets.desk.now.id) laning c.args.lanes.now c.requires.lanes_ready i lane inside

pub returns-then-carriers-eq1-clause-lanes : goal.returns-then-carriers-eq1-clause-lanes
returns-then-carriers-eq1-clause-lanes g c = pairs_mapped _ laning _ _ c.run_parts.ensures.lanes

-- and in the threads of lanes
pub run_parts-requires-2-send-A : goal.run_parts-requires-2-send-A
run_parts-requires-2-send-A g c κs within = search (rules, sendable, crosses, lane_send) depth 40

pub run_parts-requires-2-clause-lanes : goal.run_parts-requires-2-clause-lanes
run_parts-requires-2-clause-lanes g c κs within = λ i lane inside. each_mapped (IsLaneReady (tail_words g.T.Tail.numbers g.T.Tail.told g.T.Tail.faults) c.args.shift.outlets.queue.now.id c.args.shift.outlets.desk.now.id) laning c.args.lanes.now c.requires.lanes_ready i lane inside

pub returns-clause-lanes : goal.returns-clause-lanes
returns-clause-lanes g c = pairs_mapped _ laning _ _ c.run_parts-2.ensures.lanes
