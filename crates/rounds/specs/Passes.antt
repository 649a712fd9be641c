-- The passes of lanes and of workers, which may be laid down (this project's profile).
use Rattle.std.specs.Prelude.{◌≡◌, ℕ, List, [], Option, Some, None}
use Rattle.std.specs.List.{AllByRecursion, flat_map}
use Rattle.atomic_table.specs.Seated.{TableId}
use Rattle.mem_queue.specs.Known.{Known}
use Rattle.mem_queue.specs.declared.entry.Entry.{Entry}
use Rattle.settle_box.specs.Poster.{Poster, senders_of}
use Rattle.settle_box.specs.declared.sender.Sender.{Sender}

-- one pass of the queue and one of the box, or none of it
pub record Passes : Type 0 where
  pub moves : Option Known
  pub post : Option Poster

-- ---- of one

abbrev pub share_in : Option Known → List ℕ
share_in None = []
share_in (Some pass) = pass.share

abbrev pub entries_in : Option Known → List Entry
entries_in None = []
entries_in (Some pass) = pass.entries

abbrev pub post_share_in : Option Poster → List ℕ
post_share_in None = []
post_share_in (Some pass) = pass.share

abbrev pub senders_in : Option Poster → List Sender
senders_in None = []
senders_in (Some pass) = senders_of pass

-- it is there, and of this queue
abbrev pub IsOfQueue : TableId → Option Known → Type 0
IsOfQueue queue None = ⊥
IsOfQueue queue (Some pass) = pass.queue ≡ queue

-- it is there, and of this box
abbrev pub IsOfBox : TableId → Option Poster → Type 0
IsOfBox desk None = ⊥
IsOfBox desk (Some pass) = pass.desk ≡ desk

-- both are there, of this queue and this box
pub record AreOf (queue desk : TableId) (passes : Passes) : Type 0 where
  pub moves : IsOfQueue queue passes.moves
  pub post : IsOfBox desk passes.post

-- ---- of many, in their order

abbrev pub shares : List Passes → List ℕ
shares all = flat_map (λ (p : Passes). share_in p.moves) all

abbrev pub entries : List Passes → List Entry
entries all = flat_map (λ (p : Passes). entries_in p.moves) all

abbrev pub post_shares : List Passes → List ℕ
post_shares all = flat_map (λ (p : Passes). post_share_in p.post) all

abbrev pub senders : List Passes → List Sender
senders all = flat_map (λ (p : Passes). senders_in p.post) all

abbrev pub AreAllOf : TableId → TableId → List Passes → Type 0
AreAllOf queue desk all = AllByRecursion (AreOf queue desk) all
