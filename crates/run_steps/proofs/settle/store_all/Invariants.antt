use Rattle.std.proofs.Common.{None}
use Rattle.rounds.specs.Crewing.{crewing}
use Rattle.run_steps.specs.LastSteps.{HandsOn}
use Rattle.rounds.specs.WordsOf.{words_of}
use Rattle.run_steps.proofs.settle.store_all.Given as goal

abbrev pub invariant-loop : goal.invariant-loop
invariant-loop g l = record {
  goes_on : (goal.iterator-loop g).can_next l.iterator';
  ends : (goal.iterator-loop g).is_finite l.iterator';
  hands_on : HandsOn (words_of g.T.Tail g.L.Link g.W.Wire g.D.Disk) l.context None (crewing l.initial.crew l.initial.storing) (crewing l.crew l.storing);
}
