use Rattle.std.proofs.Common.{length}
use Rattle.rounds.proofs.settling.+hand_on_carriers.Given as goal

abbrev pub decreases-hand_on_carriers : goal.decreases-hand_on_carriers
decreases-hand_on_carriers g l = length l.carriers.now
