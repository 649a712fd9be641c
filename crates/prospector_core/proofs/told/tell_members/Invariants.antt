use Rattle.std.proofs.Common.{take}
use Rattle.prospector_core.specs.Marks.{known_in}
use Rattle.prospector_core.specs.Told.{IsToldBy}
use Rattle.prospector_core.proofs.told.tell_members.Given as goal

abbrev pub invariant-loop-member : goal.invariant-loop-member
invariant-loop-member l = IsToldBy l.clean (known_in l.initial.watched l.initial.told.next l.initial.told.files) (take l.member-index l.seen) l.watched l.told
