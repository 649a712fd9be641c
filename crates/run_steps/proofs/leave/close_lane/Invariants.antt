use Rattle.std.proofs.Common.{◌∷◌, [], length}
use Rattle.lanes.specs.Laning.{laning}
use Rattle.rounds.specs.WordsOf.{tails_of}
use Rattle.run_steps.specs.ClosesTail.{ClosesSome, readers}
use Rattle.run_steps.proofs.leave.close_lane.Given as goal

abbrev pub invariant-harvesters : goal.invariant-harvesters
invariant-harvesters g l = ClosesSome (tails_of g.F.Tail.Tail) (readers g.F.Folder l.initial.folder (laning l.initial.lane ∷ [])) (readers g.F.Folder l.folder (laning l.lane ∷ []))

abbrev pub decreases-harvesters : goal.decreases-harvesters
decreases-harvesters g l = length (laning l.lane).harvesters
