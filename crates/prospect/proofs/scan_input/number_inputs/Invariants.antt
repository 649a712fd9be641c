use Rattle.std.proofs.Common.{◌≡◌, map, take}
use Rattle.prospect.specs.Readings.{reading_of, readings_from}
use Rattle.prospect.proofs.scan_input.number_inputs.Given as goal

abbrev pub invariant-loop-number : goal.invariant-loop-number
invariant-loop-number l = map reading_of l.read.items ≡ readings_from 0 (take l.number l.inputs)
