use Rattle.std.specs.Option.{option_copied}
use Rattle.outside_mem.proofs.Making.{IsFoundUpTo}
use Rattle.outside_mem.proofs.script.Script.path.Given as goal

abbrev pub invariant-loop-index : goal.invariant-loop-index
invariant-loop-index l = IsFoundUpTo l.listings l.calls l.self.file.path l.self.file.steps.items l.index (option_copied l.path)
