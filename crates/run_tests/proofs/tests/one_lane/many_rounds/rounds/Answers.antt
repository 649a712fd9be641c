use Rattle.run_tests.proofs.tests.one_lane.many_rounds.rounds.Goals as goal

pub run-requires : goal.run-requires
run-requires g c = rw (c.rounds.invariant.queue, c.rounds.invariant.desk) c.rounds.invariant.ready
