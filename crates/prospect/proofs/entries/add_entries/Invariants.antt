use Rattle.prospect.specs.Entries.{Adds}
use Rattle.prospect.proofs.entries.add_entries.Given as goal

abbrev pub invariant-loop-entry : goal.invariant-loop-entry
invariant-loop-entry l = Adds l.yielded l.initial.entries l.entries
