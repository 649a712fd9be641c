use Rattle.std.proofs.Common.{length}
use Rattle.event_tree.proofs.fields.+branch.Given as goal

-- each call has one part less
abbrev pub decreases-branch : goal.decreases-branch
decreases-branch l = length l.parts.now
