use Rattle.std.proofs.Common.{take}
use Rattle.outside_mem.specs.Images.{after, fresh}
use Rattle.outside_mem.specs.Replays.{StandsFor}
use Rattle.outside_mem.proofs.disk.MemDisk.torn.Given as goal

abbrev pub invariant-loop-change : goal.invariant-loop-change
invariant-loop-change l = StandsFor l.filler (after (fresh l.self.first.items) (take l.change-index l.self.changes.items)) l.replay
