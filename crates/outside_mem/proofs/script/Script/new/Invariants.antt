use Rattle.std.proofs.Common.{◌≡◌, ◌+◌, ◌≤◌, drop}
use Rattle.outside_mem.specs.Steps.{appended}
use Rattle.wire_base.specs.declared.numbers.TheConstants.{MAX_PLACE}
use Rattle.outside_mem.proofs.script.Script.new.Given as goal

abbrev pub invariant-loop-step : goal.invariant-loop-step
invariant-loop-step l =
    (l.total + appended (drop l.step-index l.fn.file.steps.items) ≡ appended l.fn.file.steps.items) × (l.total ≤ MAX_PLACE)
