-- What a tracker stands for (this project's profile): the rows that it was given first, the notes since then in their
-- order, those of them that came before the last commit, and the slots whose rows went. A row that went stays gone,
-- whatever is noted afterwards.
use Rattle.std.specs.Prelude.{ℕ, List}
use Rattle.wire_base.specs.declared.row.Row.{Row}
use Rattle.wire_base.specs.declared.note.Note.{Note}

pub record Tracked : Type 0 where
  pub opening : List Row
  pub notes : List Note
  pub committed : List Note
  pub gone : List ℕ
