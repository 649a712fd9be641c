use Rattle.registry_log.proofs.ReadOn.{nothing_read}
use Rattle.registry_log.proofs.area.read_opened.Goals as goal

pub returns-in-Closed-clause-state : goal.returns-in-Closed-clause-state
returns-in-Closed-clause-state g c = λ area told of at unclosed header.
    rw c.in-Closed.is at (c.in_ok-gate.ensures.ends area c.args.generation told of (nothing_read area c.args.generation c.args.stretch.now.place c.new-rows.result at c.new-rows.ensures unclosed header))

pub returns-in-Broken-clause-state : goal.returns-in-Broken-clause-state
returns-in-Broken-clause-state g c = λ area told of at unclosed header.
    rw c.in-Broken.is at (c.in_ok-gate.ensures.ends area c.args.generation told of (nothing_read area c.args.generation c.args.stretch.now.place c.new-rows.result at c.new-rows.ensures unclosed header))
