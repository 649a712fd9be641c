use Rattle.rounds.proofs.Each.{back_each, front_each, paired_parts}
use Rattle.rounds.proofs.halves.+halves.Goals as goal

pub run_parts-returns-clause-lanes : goal.run_parts-returns-clause-lanes
run_parts-returns-clause-lanes g t c = paired_parts _ _ _ _ _ _ c.split_at_mut-lanes.ensures.value c.run_halves.ensures.lanes c.run_halves.ensures.more_lanes

pub run_parts-returns-clause-workers : goal.run_parts-returns-clause-workers
run_parts-returns-clause-workers g t c = paired_parts _ _ _ _ _ _ c.split_at_mut-workers.ensures.value c.run_halves.ensures.workers c.run_halves.ensures.more_workers

pub run_parts-run_halves-requires-clause-lanes : goal.run_parts-run_halves-requires-clause-lanes
run_parts-run_halves-requires-clause-lanes g t c κs within = front_each (g.S.Task.lane_ready c.args.task.now) _ _ _ c.split_at_mut-lanes.ensures.value c.requires.lanes

pub run_parts-run_halves-requires-clause-more_lanes : goal.run_parts-run_halves-requires-clause-more_lanes
run_parts-run_halves-requires-clause-more_lanes g t c κs within = back_each (g.S.Task.lane_ready c.args.task.now) _ _ _ c.split_at_mut-lanes.ensures.value c.requires.lanes

pub run_parts-run_halves-requires-clause-workers : goal.run_parts-run_halves-requires-clause-workers
run_parts-run_halves-requires-clause-workers g t c κs within = front_each (g.S.Task.worker_ready c.args.task.now) _ _ _ c.split_at_mut-workers.ensures.value c.requires.workers

pub run_parts-run_halves-requires-clause-more_workers : goal.run_parts-run_halves-requires-clause-more_workers
run_parts-run_halves-requires-clause-more_workers g t c κs within = back_each (g.S.Task.worker_ready c.args.task.now) _ _ _ c.split_at_mut-workers.ensures.value c.requires.workers
