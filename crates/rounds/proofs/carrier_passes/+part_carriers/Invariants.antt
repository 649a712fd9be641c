use Rattle.std.proofs.Common.{length}
use Rattle.rounds.proofs.carrier_passes.+part_carriers.Given as goal

abbrev pub decreases-part_carriers : goal.decreases-part_carriers
decreases-part_carriers g l = length l.carriers.now
