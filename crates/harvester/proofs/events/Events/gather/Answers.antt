use Rattle.std.proofs.Common.{[], ◌∷◌}
use Rattle.harvester.proofs.Gathering.{gathers_line, none_closed}
use Rattle.harvester.proofs.events.Events.gather.Goals as goal

pub returns-in-Ok-clause-gathered : goal.returns-in-Ok-clause-gathered
returns-in-Ok-clause-gathered c = λ rules start fed licences of is.
    let old = c.args.self.now in
    gathers_line rules start fed licences of c.args.line c.args.now old c.line.new.self c.in-Ok.group c.requires.no_line
    (none_closed rules start fed licences of (c.args.line ∷ []) old c.requires.none_closed is) is
    (c.in-Ok.ensures.closes_an_event rules.events of.waiting old.last_line is.gathers)
    (c.in-Ok.ensures.gathers_where_none_is_closed rules.events of.waiting old.last_line is.gathers)
