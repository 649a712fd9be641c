use Rattle.std.proofs.Common.{length}
use Rattle.rounds.proofs.carrier_passes.+gather_more.Given as goal

abbrev pub decreases-gather_more : goal.decreases-gather_more
decreases-gather_more g l = length l.carriers.now
