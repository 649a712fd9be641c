use Rattle.findings.specs.Each.{Each}
use Rattle.findings.specs.Seeing.{SeesGlob}
use Rattle.findings.proofs.seeing.see_globs.Given as goal

abbrev pub invariant-loop-one : goal.invariant-loop-one
invariant-loop-one g l = Each (SeesGlob (g.Y.System.told l.system) l.listed) l.yielded l.seen.items
