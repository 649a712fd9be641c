use Rattle.std.proofs.Common.{length}
use Rattle.rounds.proofs.answer.+some_carrier_moved.Given as goal

abbrev pub decreases-some_carrier_moved : goal.decreases-some_carrier_moved
decreases-some_carrier_moved g l = length l.carriers.now
