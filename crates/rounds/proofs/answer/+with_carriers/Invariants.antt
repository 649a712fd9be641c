use Rattle.std.proofs.Common.{length}
use Rattle.rounds.proofs.answer.+with_carriers.Given as goal

abbrev pub decreases-with_carriers : goal.decreases-with_carriers
decreases-with_carriers g l = length l.carriers.now
