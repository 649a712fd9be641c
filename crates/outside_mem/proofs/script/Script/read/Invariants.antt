use Rattle.outside_mem.proofs.Making.{IsReadUpTo}
use Rattle.outside_mem.proofs.script.Script.read.Given as goal

abbrev pub invariant-loop-step : goal.invariant-loop-step
invariant-loop-step l = IsReadUpTo l.listings l.calls l.at l.self.file.steps.items l.step-index l.sight l.into
