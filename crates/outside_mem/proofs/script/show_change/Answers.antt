use Rattle.outside_mem.proofs.Showing.{Shows-take}
use Rattle.outside_mem.proofs.script.show_change.Goals as goal

pub returns-in-Truncate : goal.returns-in-Truncate
returns-in-Truncate c = rw c.in-Truncate.is (λ s is shows. Shows-take c.args.at _ s.bytes c.args.into.now shows)
