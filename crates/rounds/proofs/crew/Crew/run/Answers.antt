use Rattle.rounds.proofs.Having.{carriers_ready}
use Rattle.rounds.proofs.crew.Crew.run.Goals as goal

pub run_both-requires-clause-carriers_ready : goal.run_both-requires-clause-carriers_ready
run_both-requires-clause-carriers_ready g c κs within =
    carriers_ready c.args.shift.outlets.queue.now.id c.args.shift.outlets.desk.now.id c.args.self.now.carriers.items c.requires.ready.able.have.carriers_have
