use Rattle.std.proofs.Common.{◌≡◌, length}
use Rattle.file_progress.specs.Table.{from_character}
use Rattle.file_progress.proofs.table.from_character.Given as goal

abbrev pub invariant-front : goal.invariant-front
invariant-front l = from_character l.left ≡ from_character l.bytes

abbrev pub decreases-front : goal.decreases-front
decreases-front l = length l.left
