use Rattle.std.proofs.Common.{arith}
use Rattle.registry_store.proofs.Anew.{gate_in_range, started_gives}
use Rattle.registry_store.proofs.starting.checkpoint.Goals as goal

pub returns-clause-opened : goal.returns-clause-opened
returns-clause-opened g c = λ ample. (c.start_area.ensures.opened ample).1

pub returns-clause-in_range : goal.returns-clause-in_range
returns-clause-in_range g c = gate_in_range c.start_area.result c.args.generation c.args.rows.now (omega arith) c.requires.rows c.start_area.ensures.last_gate c.start_area.ensures.bodies_fit

pub returns-clause-gives_the_rows : goal.returns-clause-gives_the_rows
returns-clause-gives_the_rows g c = λ used earlier end before other settled holds less choice.
    started_gives g.D.Disk.contents g.D.Disk.images g.D.Disk.moment g.D.Disk.images_since c.start_area.result c.args.into.now c.start_area.new.disk used earlier c.args.generation c.args.rows.now end before other
    (g.met.D.Disk.only_now c.args.into.now) c.start_area.ensures.untouched_without_memory c.start_area.ensures.opened settled holds less choice (c.start_area.ensures.each_moment settled)
