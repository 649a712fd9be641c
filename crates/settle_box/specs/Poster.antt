-- What contracts see of a pass that posts (this project's profile).
use Rattle.std.specs.Prelude.{ℕ, List, ◌∷◌}
use Rattle.atomic_table.specs.Seated.{TableId}
use Rattle.settle_box.specs.declared.sender.Sender.{Sender}

-- of which box it is, its share of the right to post, the sender under whose name it posts, and those whose passes were joined
-- into it
pub record Poster : Type 0 where
  pub desk : TableId
  pub share : List ℕ
  pub mine : Sender
  pub joined : List Sender

abbrev pub poster : TableId → List ℕ → Sender → List Sender → Poster
poster desk share mine joined = record { desk = desk; share = share; mine = mine; joined = joined }

-- all its senders
abbrev pub senders_of : Poster → List Sender
senders_of p = p.mine ∷ p.joined
