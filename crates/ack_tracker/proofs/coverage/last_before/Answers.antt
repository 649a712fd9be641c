use Rattle.ack_tracker.proofs.Settling.{last_found}
use Rattle.ack_tracker.proofs.coverage.last_before.Goals as goal

pub returns-in-Some : goal.returns-in-Some
returns-in-Some c =
    last_found c.args.ahead.now c.args.place c.range-before.result (c.range-before.ensures.in_range tt) (c.in-Some.start.now, c.in-Some.end.now) c.next_back.new.self c.in-Some.ensures.steps
