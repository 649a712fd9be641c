use Rattle.std.proofs.Common.{length}
use Rattle.rounds.proofs.settled.+some_note_held.Given as goal

abbrev pub decreases-some_note_held : goal.decreases-some_note_held
decreases-some_note_held g l = length l.lanes.now
