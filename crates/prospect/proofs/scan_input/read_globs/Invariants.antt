use Rattle.std.proofs.Common.{◌≡◌, take}
use Rattle.prospect.proofs.scan_input.read_globs.Given as goal

abbrev pub invariant-loop-text : goal.invariant-loop-text
invariant-loop-text l = l.globs.items ≡ take l.text-index l.texts
