-- A lane among others gets one harvester more.
use Rattle.std.proofs.Common.{◌≡◌, ℕ, zero, suc, ◌<◌, List, [], ◌∷◌, ◌++◌, get_or, slice_set, length, Result, Ok, Err, OnErr, OnOk, refl, ap, subst, sym, ◌∙◌, arith}
use Rattle.harvester.specs.declared.harvester.Harvester.{Harvester}
use Rattle.lanes.specs.Laning.{Laning, laning}
use Rattle.lanes.specs.declared.lane.Lane.{Lane}
use Rattle.rounds.specs.Crewed.{lanings}
use Rattle.rounds.specs.declared.crew.Crew.{Crew}
use Rattle.run_steps.specs.Beginning.{AdmitsAt, SameLanes}

module _ {T : Type 0} where
  abbrev with_harvester : Laning T → Harvester T → Laning T
  with_harvester lane harvester = record lane { harvesters = lane.harvesters ++ harvester ∷ [] }

  set_one : (lanes : List (Lane T)) (index : ℕ) (some new : Lane T) (harvester : Harvester T) → index < length lanes → laning new ≡ with_harvester (laning (get_or lanes index some)) harvester
      → AdmitsAt index harvester (lanings lanes) (lanings (slice_set lanes index new))
  set_one [] index some new harvester inside is = absurd (omega (arith, inside))
  set_one (lane ∷ lanes) zero some new harvester inside is = record {
    front = [];
    lane = laning lane;
    back = lanings lanes;
    were = refl;
    at = refl;
    are = ap (λ (l : Laning T). l ∷ lanings lanes) is;
  }
  set_one (lane ∷ lanes) (suc index) some new harvester inside is =
      let rest = set_one lanes index some new harvester (omega (arith, inside)) is in
      record {
        front = laning lane ∷ rest.front;
        lane = rest.lane;
        back = rest.back;
        were = ap (λ (l : List (Laning T)). laning lane ∷ l) rest.were;
        at = ap suc rest.at;
        are = ap (λ (l : List (Laning T)). laning lane ∷ l) rest.are;
      }

  pub set_same : (lanes : List (Lane T)) (index : ℕ) (some new : Lane T) → index < length lanes → laning new ≡ laning (get_or lanes index some) → lanings (slice_set lanes index new) ≡ lanings lanes
  set_same [] index some new inside is = absurd (omega (arith, inside))
  set_same (lane ∷ lanes) zero some new inside is = ap (λ (l : Laning T). l ∷ lanings lanes) is
  set_same (lane ∷ lanes) (suc index) some new inside is = ap (λ (l : List (Laning T)). laning lane ∷ l) (set_same lanes index some new (omega (arith, inside)) is)

  module _ {E : Type 0} (lanes : List (Lane T)) (number index : ℕ) (was new : Lane T) (same : index ≡ number) (inside : index < length lanes) (was_is : was ≡ get_or lanes index was) where
    pub admitted_at : (harvester : Harvester T) (result : Result (Unit {0}) E) → OnOk result (laning new ≡ with_harvester (laning was) harvester)
        → OnOk result (AdmitsAt number harvester (lanings lanes) (lanings (slice_set lanes index new)))
    admitted_at harvester (Ok done) is =
        subst (λ (n : ℕ). AdmitsAt n harvester (lanings lanes) (lanings (slice_set lanes index new))) same
        (set_one lanes index was new harvester inside (is ∙ ap (λ (l : Lane T). with_harvester (laning l) harvester) was_is))
    admitted_at harvester (Err error) is = tt

    pub kept_at : {W L : Type 0} (old later : Crew T W L) → later ≡ record old { lanes = later.lanes } → old.lanes.items ≡ lanes → later.lanes.items ≡ slice_set lanes index new
        → (result : Result (Unit {0}) E) → OnErr result (laning new ≡ laning was) → OnErr result (SameLanes old later)
    kept_at old later others are are_now (Ok done) is = tt
    kept_at old later others are are_now (Err error) is = record {
      lanes = ap lanings are_now ∙ set_same lanes index was new inside (is ∙ ap laning was_is) ∙ ap lanings (sym are);
      others = others;
    }
