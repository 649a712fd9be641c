use Rattle.std.proofs.Common.{◌≡◌, ◌++◌, take}
use Rattle.prospect.specs.Lacks.{lacks_of_inputs}
use Rattle.prospect.proofs.lack.add_inputs.Given as goal

abbrev pub invariant-loop-number : goal.invariant-loop-number
invariant-loop-number l = l.lacks.items ≡ l.initial.lacks.items ++ lacks_of_inputs 0 (take l.number l.inputs)
