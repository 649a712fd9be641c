use Rattle.std.proofs.Common.{refl}
use Rattle.ack_tracker.proofs.Listed.{gone_first, gone_same}
use Rattle.ack_tracker.proofs.Putting.{none_found, put_inserted}
use Rattle.ack_tracker.proofs.tracker.begin.Goals as goal

pub returns-then-contains_key-clause-gone_stays : goal.returns-then-contains_key-clause-gone_stays
returns-then-contains_key-clause-gone_stays c = gone_same c.args.files.now.entries c.args.files.now.entries refl

pub returns-in-Ok-clause-gone_stays : goal.returns-in-Ok-clause-gone_stays
returns-in-Ok-clause-gone_stays c =
    gone_first c.args.files.now.entries c.insert.new.self.entries c.args.slot.0 c.args.file (none_found _ c.if-contains_key.ensures) (put_inserted c.args.files.now c.insert.new.self c.args.slot.0 c.args.file c.in-Ok.ensures.updates)

pub returns-clause-gone_stays : goal.returns-clause-gone_stays
returns-clause-gone_stays c = gone_same c.args.files.now.entries c.insert.new.self.entries c.in-Err.ensures.err
