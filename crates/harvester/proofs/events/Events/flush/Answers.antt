use Rattle.std.proofs.Common.{option_to_list}
use Rattle.harvester.proofs.Gathering.{flushed, none_closed, none_too}
use Rattle.harvester.proofs.events.Events.flush.Goals as goal

pub returns-clause-flushed : goal.returns-clause-flushed
returns-clause-flushed c = λ rules start fed licences of is.
    let old = c.args.self.now in
    flushed rules start fed licences of old c.flush.new.self c.flush.result
    (none_closed rules start fed licences of (option_to_list old.line) old c.requires.none_closed is) is
    (c.flush.ensures.begins_anew rules.events of.waiting old.last_line is.gathers)
    (none_too c.flush.result old.grouper.gathered c.flush.ensures.none_where_none_waits)
    (c.flush.ensures.flushed rules.events of.waiting old.last_line is.gathers)
