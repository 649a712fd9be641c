-- A first look by the second question of the bell: a round is made between two of them.
use Rattle.std.proofs.Common.{◌≡◌, inl, inr, ⊎_elim, ℕ, List, length, sym, ap, subst, ◌∙◌, arith}
use Rattle.harvester.specs.declared.harvester.Harvester.{Harvester}
use Rattle.lanes.specs.Laning.{Laning}
use Rattle.outside.specs.Counts.{next_count}
use Rattle.rounds.specs.Staying.{begins_of}
use Rattle.rounds.specs.Words.{TailWords}
use Rattle.run_steps.specs.Looking.{Asked, HoldNothing, IsFirstLook, LooksByNow, LooksInRound, LooksSoFar}
use Rattle.run_steps.specs.Releasing.{harvesters_of}
use Rattle.run_steps.proofs.Ended.{nil_by}
use Rattle.run_steps.proofs.RunTails.{as_many_harvesters}

module _ {T : Type 0} (tails : TailWords T) (before now : Asked T) where
  -- a round that is refused nothing
  pub looks_then : (after : Asked T) → LooksSoFar tails before now → LooksInRound tails now.lanes after.lanes → LooksSoFar tails before after
  looks_then after so_far round nothing = inr (⊎_elim
      (λ same. subst (λ (l : List (Laning T)). IsFirstLook tails l after.lanes) same.1 (round.first (subst (λ (l : List (Laning T)). HoldNothing l) (sym same.1) nothing)))
      (λ first. ⊎_elim (λ none. inl none) (λ some. inr (round.stays some)) first) (so_far nothing))

  -- the bell was asked once more
  pub looks_by_now : (bell : ℕ) → bell ≡ next_count now.bell → LooksSoFar tails before now → LooksByNow tails before (record { bell = bell; lanes = now.lanes })
  looks_by_now bell asked so_far nothing twice =
      ⊎_elim (λ same. let first = same.0 in absurd (omega (arith, first, asked, twice))) (λ first. first) (so_far nothing)

-- from lanes of as many harvesters
pub looks_from : {T : Type 0} (tails : TailWords T) (old mid new : List (Laning T)) → begins_of mid ≡ begins_of old → IsFirstLook tails mid new → IsFirstLook tails old new
looks_from {T} tails old mid new same first =
    ⊎_elim (λ none. inl (nil_by (harvesters_of old) (sym (as_many_harvesters old mid same) ∙ ap (λ (hs : List (Harvester T)). length hs) none))) (λ some. inr some) first
