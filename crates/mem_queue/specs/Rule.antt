-- The rule of the queue, over what it holds and what all passes know (this project's profile).
use Rattle.std.specs.Prelude.{◌≡◌, ℕ, List, [], All, length, Some, None}
use Rattle.std.specs.List.{flat_map}
use mathlib.Core.Option.{some}
use lib.ListN.{get_elem?}
use Rattle.wire_base.specs.declared.parcel.Parcel.{Parcel}
use Rattle.wire_base.specs.Ranges.{IsParcel}
use Rattle.pass_sums.specs.Share.{IsWhole}
use Rattle.mem_queue.specs.declared.rule.Hand.{Hand}
use Rattle.mem_queue.specs.Conserved.{IsConserved}
use Rattle.mem_queue.specs.Hand.{hand}
use Rattle.mem_queue.specs.Known.{Known}

-- who may not put has put nothing, and who may not take has taken nothing
pub record IsWithinRights (v : Hand) : Type 0 where
  pub put : v.puts ≡ [] → v.put ≡ []
  pub taken : v.takes ≡ [] → v.taken ≡ []

-- who knows the rest of a closed queue has the whole of both rights, and the rest is what the queue holds
pub record KnowsRest (v : Hand) (items rest : List Parcel) : Type 0 where
  pub puts : IsWhole v.puts
  pub takes : IsWhole v.takes
  pub is : rest ≡ items

-- what all passes put and took and what the queue holds fit together; the shares of each right make a whole
pub record IsConserving (items : List Parcel) (views : List Hand) : Type 0 where
  pub puts : IsWhole (flat_map (λ v. v.puts) views)
  pub takes : IsWhole (flat_map (λ v. v.takes) views)
  pub conserved : IsConserved (flat_map (λ v. v.put) views) (flat_map (λ v. v.taken) views) items
  pub ranges : All IsParcel items
  pub rights : (pass : ℕ) (v : Hand) → get_elem? views pass ≡ some v → IsWithinRights v
  pub rests : (pass : ℕ) (v : Hand) → get_elem? views pass ≡ some v
      → (rest : List Parcel) → v.rest ≡ Some rest → KnowsRest v items rest

-- the rule allows that the queue holds these while a pass knows this
pub record IsAllowed (v : Hand) (items : List Parcel) : Type 0 where
  pub pass : ℕ
  pub views : List Hand
  pub rule : IsConserving items views
  pub knows : get_elem? views pass ≡ some v

-- at a step of the call the queue was full, in a state that the rule allows while this pass knows what it knows
abbrev pub WasFull : ℕ → Known → Type 0
WasFull capacity pass =
    (items : List Parcel) × (length items ≡ capacity) × IsAllowed (hand pass.share [] pass.entries [] None) items

-- at a step of the call the queue was empty, in a state that the rule allows while this pass knows what it knows
abbrev pub WasEmpty : Known → Type 0
WasEmpty pass = IsAllowed (hand [] pass.share [] pass.entries None) []
