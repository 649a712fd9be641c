use Rattle.std.proofs.Common.{length}
use Rattle.rounds.proofs.settled.+some_note_owed.Given as goal

abbrev pub decreases-some_note_owed : goal.decreases-some_note_owed
decreases-some_note_owed g l = length l.carriers.now
