use Rattle.rounds.proofs.Each.{first_each, paired_on}
use Rattle.rounds.proofs.halves.+run_workers_in_turn.Goals as goal

pub run_worker-requires-clause-ready : goal.run_worker-requires-clause-ready
run_worker-requires-clause-ready g t c = first_each (g.S.Task.worker_ready c.args.task.now) c.args.workers.now _ _ c.in-Some.ensures.cases.0 c.requires.ready

pub returns : goal.returns
returns g t c = paired_on (g.S.Task.worker_ran c.args.task.now) c.args.workers.now _ _ _ _ c.in-Some.ensures.cases.0 c.run_worker.ensures c.run_workers_in_turn.ensures
