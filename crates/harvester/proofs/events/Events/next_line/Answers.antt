use Rattle.std.proofs.Common.{sym, ◌∙◌}
use Rattle.harvester.proofs.Gathering.{cut_one}
use Rattle.harvester.proofs.events.Events.next_line.Goals as goal

pub returns-in-None-clause-found : goal.returns-in-None-clause-found
returns-in-None-clause-found c =
    cut_one c.next_line.result c.take.new.self c.next_line.new.self c.args.self.now c.lines_adjoin.ensures (sym c.take.ensures.value ∙ c.in-None.is)
    c.next_line.ensures.handed_out c.next_line.ensures.goes_to_its_end c.next_line.ensures.place
