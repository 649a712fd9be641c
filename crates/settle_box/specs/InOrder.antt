-- The box keeps each sender's order (this project's profile).
use Rattle.std.specs.Prelude.{◌≡◌, ℕ, ◌≤◌, List, ◌++◌, All}
use Rattle.pass_sums.specs.Weight.{weigh, AsOften}
use Rattle.settle_box.specs.declared.sender.Sender.{Sender}
use Rattle.settle_box.specs.declared.sender.Sent.{Sent}
use Rattle.settle_box.specs.Senders.{has_name, notes, notes_of, posted_by}

-- of each sender, what was collected and then what the box holds is what it posted, in order; nothing else was collected or is
-- held; and no two senders have one name
pub record IsInOrder (senders : List Sender) (got held : List Sent) : Type 0 where
  pub order : All (λ s. notes_of s.name got ++ notes_of s.name held ≡ s.posted) senders
  pub all : AsOften (posted_by senders) (notes got ++ notes held)
  pub once : (name : List ℕ) → weigh (has_name name) senders ≤ 1
