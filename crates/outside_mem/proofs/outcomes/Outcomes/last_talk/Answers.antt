use Rattle.std.proofs.Common.{rules, ◌≡◌, ◌∷◌, ◌++◌, [], sym, ◌∙◌, ap}
use Rattle.outside_mem.specs.Outcomes.{told, last_talk}
use Rattle.outside_mem.proofs.Talking.{last_talk-append, last_talk-refused}
use Rattle.outside_mem.proofs.outcomes.Outcomes.last_talk.Goals as goal

pub returns-in-Start : goal.returns-in-Start
returns-in-Start c = rw (last_talk-refused, c.in-Start.is) (search rules)

pub returns-in-After : goal.returns-in-After
returns-in-After c = rw (last_talk-refused, c.in-After.is, last_talk-append) (search rules)
