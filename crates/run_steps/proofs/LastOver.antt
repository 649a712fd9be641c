-- Where a harvester's last epoch is over, so it is of the file for which it stands.
use Rattle.std.proofs.Common.{inl, inr, ⊎_elim, ℕ, List, [], ◌∷◌, ◌++◌, sym, ap, ◌∙◌}
use Rattle.std.specs.List.{flat_map}
use Rattle.accounts.specs.Opened.{Opened}
use Rattle.accounts.specs.Turned.{Turned}
use Rattle.accounts.specs.Turning.{IsTurnedSo, Pairs}
use Rattle.accounts.specs.Watch.{Watch}
use Rattle.harvester.specs.Standing.{stage_of}
use Rattle.harvester.specs.declared.harvester.Harvester.{Harvester}
use Rattle.lanes.specs.Laning.{Laning}
use Rattle.rounds.specs.Pairs.{SomeOf}
use Rattle.rounds.specs.Words.{TailWords}
use Rattle.wire_base.specs.declared.note.Begin.{Begin}
use Rattle.wire_base.specs.declared.numbers.Slot.{Slot}
use Rattle.run_steps.specs.LastEpoch.{IsLastOver}
use Rattle.run_steps.specs.MetBy.{IsOverOf, SomeHarvester}
use Rattle.run_steps.specs.Stands.{AreTurnedIn}

-- ---- one of several

-- one of the first is one of both
pub some_first : {A : Type 0} (P : A → Type 0) (xs ys : List A) → SomeOf P xs → SomeOf P (xs ++ ys)
some_first P [] ys some = absurd some
some_first P (x ∷ xs) ys some = ⊎_elim (λ here. inl here) (λ later. inr (some_first P xs ys later)) some

-- and so is one of the others
pub some_behind : {A : Type 0} (P : A → Type 0) (xs ys : List A) → SomeOf P ys → SomeOf P (xs ++ ys)
some_behind P [] ys some = some
some_behind P (x ∷ xs) ys some = inr (some_behind P xs ys some)

-- ---- a file by its harvester

module _ {T : Type 0} (tails : TailWords T) (watch : Watch) (opened : List Opened) (moments : List ℕ) (slot : Slot) where
  last_over : (turned : Turned) (harvester : Harvester T) → IsTurnedSo tails.numbers tails.told watch opened moments turned harvester → IsOverOf slot harvester → IsLastOver slot turned
  last_over turned harvester so is =
      let follows = so.has_told.held.holds.follows in
      record {
        of_slot = so.is_told.slot ∙ ap (λ (b : Begin). b.slot) (sym so.is_told.history.begin ∙ sym follows.begin) ∙ is.of_slot;
        over = sym follows.stage ∙ ap stage_of is.over;
        last = sym follows.epoch ∙ is.last;
      }

  over_in_lane : (turned : List Turned) (harvesters : List (Harvester T)) → Pairs (IsTurnedSo tails.numbers tails.told watch opened moments) turned harvesters → SomeOf (IsOverOf slot) harvesters →
      SomeOf (IsLastOver slot) turned
  over_in_lane [] [] stand some = absurd some
  over_in_lane [] (harvester ∷ harvesters) stand some = absurd stand
  over_in_lane (one ∷ turned) [] stand some = absurd some
  over_in_lane (one ∷ turned) (harvester ∷ harvesters) stand some =
      ⊎_elim (λ here. inl (last_over one harvester stand.0 here)) (λ later. inr (over_in_lane turned harvesters stand.1 later)) some

  pub over_in_lanes : (files : List (List Turned)) (lanes : List (Laning T)) → Pairs (AreTurnedIn tails watch opened moments) files lanes → SomeHarvester (IsOverOf slot) lanes →
      SomeOf (IsLastOver slot) (flat_map (λ (turned : List Turned). turned) files)
  over_in_lanes [] [] stand some = absurd some
  over_in_lanes [] (lane ∷ lanes) stand some = absurd stand
  over_in_lanes (turned ∷ files) [] stand some = absurd some
  over_in_lanes (turned ∷ files) (lane ∷ lanes) stand some =
      ⊎_elim (λ here. some_first (IsLastOver slot) turned (flat_map (λ (l : List Turned). l) files) (over_in_lane turned lane.harvesters stand.0 here))
      (λ later. some_behind (IsLastOver slot) turned (flat_map (λ (l : List Turned). l) files) (over_in_lanes files lanes stand.1 later)) some
