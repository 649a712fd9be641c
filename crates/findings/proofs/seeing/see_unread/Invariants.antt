use Rattle.std.proofs.Common.{take}
use Rattle.findings.specs.Seeing.{AreUnread}
use Rattle.findings.proofs.seeing.see_unread.Given as goal

abbrev pub invariant-loop-one : goal.invariant-loop-one
invariant-loop-one g l = AreUnread (g.Y.System.told l.system) (take l.one-index l.listed) l.unread.items
