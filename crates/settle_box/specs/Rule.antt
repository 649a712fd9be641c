-- The rule of the box, over what it holds and what all passes know (this project's profile).
use Rattle.std.specs.Prelude.{◌≡◌, ◌≢◌, ℕ, ◌<◌, List, [], ◌∷◌, All, length, if◌then◌else◌, Some, None}
use Rattle.std.specs.List.{flat_map}
use mathlib.Core.Option.{some}
use lib.ListN.{get_elem?}
use Rattle.wire_base.specs.declared.note.Note.{Note}
use Rattle.wire_base.specs.Ranges.{IsNote}
use Rattle.pass_sums.specs.Share.{IsWhole}
use Rattle.pass_sums.specs.Weight.{weigh}
use Rattle.settle_box.specs.declared.rule.Hand.{Hand}
use Rattle.settle_box.specs.declared.sender.Sender.{Sender}
use Rattle.settle_box.specs.declared.sender.Sent.{Sent}
use Rattle.settle_box.specs.Collector.{Collector}
use Rattle.settle_box.specs.Hand.{hand}
use Rattle.settle_box.specs.InOrder.{IsInOrder}
use Rattle.settle_box.specs.Notes.{IsPostable}
use Rattle.settle_box.specs.Poster.{Poster, senders_of}
use Rattle.settle_box.specs.Senders.{has_name, notes, notes_of, same_name}

-- who may not post has no sender; who may collect knows all that was collected, and nobody else knows any of it
pub record IsWithinRights (got : List Sent) (v : Hand) : Type 0 where
  pub senders : v.posts ≡ [] → v.senders ≡ []
  pub none : v.collects ≡ [] → v.got ≡ []
  pub all : v.collects ≢ [] → v.got ≡ got

-- who knows the rest of a closed box has the whole of both rights; the rest is a note taken ahead and then what the box holds
pub record KnowsRest (held : List Sent) (v : Hand) (rest : List Sent) : Type 0 where
  pub posts : IsWhole v.posts
  pub collects : IsWhole v.collects
  pub ahead : Sent
  pub is : rest ≡ ahead ∷ held

-- how often the sender of this name was split; 0 for another sender
abbrev pub splits_of : List ℕ → Sender → ℕ
splits_of name s = if same_name name s.name then s.made else 0

-- all senders' notes are in order, of those that were collected and those that the box holds; each name comes from a split that
-- was made, and what no sender posted is not there; the shares of each right make a whole
pub record IsOrderly (items : List Note) (views : List Hand) : Type 0 where
  pub got : List Sent
  pub held : List Sent
  pub is : notes held ≡ items
  pub posts : IsWhole (flat_map (λ v. v.posts) views)
  pub collects : IsWhole (flat_map (λ v. v.collects) views)
  pub in_order : IsInOrder (flat_map (λ v. v.senders) views) got held
  pub born : (number : ℕ) (name : List ℕ) → 0 < weigh (has_name (number ∷ name)) (flat_map (λ v. v.senders) views)
      → number < weigh (splits_of name) (flat_map (λ v. v.senders) views)
  pub unknown : (name : List ℕ) → weigh (has_name name) (flat_map (λ v. v.senders) views) ≡ 0
      → (notes_of name got ≡ []) × (notes_of name held ≡ [])
  pub kinds : All IsPostable items
  pub ranges : All IsNote items
  pub rights : (pass : ℕ) (v : Hand) → get_elem? views pass ≡ some v → IsWithinRights got v
  pub rests : (pass : ℕ) (v : Hand) → get_elem? views pass ≡ some v
      → (rest : List Sent) → v.rest ≡ Some rest → KnowsRest held v rest

-- what the only pass learns of the box: what it holds, in the order of each sender
abbrev pub HoldsInOrder : Hand → List Note → Type 0
HoldsInOrder v items = (held : List Sent) × (notes held ≡ items) × IsInOrder v.senders v.got held

-- the rule allows that the box holds these while a pass knows this
pub record IsAllowed (v : Hand) (items : List Note) : Type 0 where
  pub pass : ℕ
  pub views : List Hand
  pub rule : IsOrderly items views
  pub knows : get_elem? views pass ≡ some v

-- at a step of the call the box was full, in a state that the rule allows while this pass knows what it knows
abbrev pub WasFull : ℕ → Poster → Type 0
WasFull capacity pass =
    (items : List Note) × (length items ≡ capacity) × IsAllowed (hand pass.share [] (senders_of pass) [] None) items

-- at a step of the call the box was empty, in a state that the rule allows while this pass knows what it knows
abbrev pub WasEmpty : Collector → Type 0
WasEmpty pass = IsAllowed (hand [] (0 ∷ []) [] pass.got None) []
