use Rattle.harvester.proofs.Standings.{span_in_range}
use Rattle.harvester.proofs.tell.fate.Goals as goal

pub fate-requires-clause-place : goal.fate-requires-clause-place
fate-requires-clause-place c =
    let i = c.reader.invariant in
    (span_in_range i.history _ i.of i.holds c.in-Some.group c.in-Some.is).0

pub returns-clause-in_range : goal.returns-clause-in_range
returns-clause-in_range c =
    let i = c.reader.invariant in
    (span_in_range i.history _ i.of i.holds c.in-Some.group c.in-Some.is).1
