-- What contracts see of a pass (this project's profile).
use Rattle.std.specs.Prelude.{ℕ, List}
use Rattle.atomic_table.specs.Seated.{TableId}
use Rattle.mem_queue.specs.declared.entry.Entry.{Entry}

-- of which queue it is, its share of the right to put, or to take, and what was put, or taken, by it, in order
pub record Known : Type 0 where
  pub queue : TableId
  pub share : List ℕ
  pub entries : List Entry

abbrev pub known : TableId → List ℕ → List Entry → Known
known queue share entries = record { queue = queue; share = share; entries = entries }
