use Rattle.std.proofs.Common.{◌≡◌, ◌++◌, ◌-◌, replicate}
use Rattle.file_progress.proofs.part.put_spaces.Given as goal

abbrev pub invariant-spaces : goal.invariant-spaces
invariant-spaces l = l.page.items ++ replicate l.left 32 ≡ l.initial.page.items ++ replicate (l.columns - l.length) 32

abbrev pub decreases-spaces : goal.decreases-spaces
decreases-spaces l = l.left
