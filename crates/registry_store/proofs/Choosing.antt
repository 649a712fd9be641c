-- Which of two areas is chosen, if one is used and the other yields to it.
use Rattle.std.proofs.Common.{◌≡◌, inl, inr, ℕ, ◌<◌, ◌⊎◌, Bool, true, false, nat_lt, if◌then◌else◌, List, [], ◌∷◌, refl, sym, ◌∙◌, ap, subst, arith}
use Rattle.std.proofs.lemmas.Bool.Decides.{nat_tests}
use Rattle.wire_base.specs.declared.limits.Which.{Which}
use Rattle.wire_base.specs.declared.limits.Which.TheVariants.{A, B}
use Rattle.wire_base.specs.declared.row.Row.{Row}
use Rattle.registry_log.specs.Starting.{IsBlank, IsClosed}
use Rattle.registry_log.specs.State.{IsOpened, IsState, State, Blank, Closed, Opened, Broken}
use Rattle.registry_store.specs.Choice.{Chosen, IsChoice, chosen_area}
use Rattle.registry_store.specs.Sides.{of_area, other_area}

-- beside an opened area of this generation, an opened one of another generation is not chosen
abbrev pub YieldsTo : Which → ℕ → ℕ → Type 0
YieldsTo A generation other = nat_lt generation other ≡ false
YieldsTo B generation other = nat_lt other generation ≡ true

-- beside an opened area of this generation, an area in this state is not chosen
abbrev pub Yields : State → Which → ℕ → Type 0
Yields Blank area generation = Unit {0}
Yields Closed area generation = Unit {0}
Yields (Broken at) area generation = Unit {0}
Yields (Opened other rows start end) area generation = YieldsTo area generation other

won_a : (first second : State) (generation : ℕ) (rows : List Row) (start end : ℕ) → chosen_area first second ≡ Chosen A generation rows start end → (first ≡ Opened generation rows start end) × Yields second A generation
won_a (Opened g r s e) Blank generation rows start end same = (cc same, tt)
won_a (Opened g r s e) Closed generation rows start end same = (cc same, tt)
won_a (Opened g r s e) (Broken at) generation rows start end same = (cc same, tt)
won_a (Opened g r s e) (Opened h o f t) generation rows start end same = by_test (nat_lt g h) refl same
  where
    by_test : (later : Bool) → nat_lt g h ≡ later → (if later then Chosen B h o f t else Chosen A g r s e) ≡ Chosen A generation rows start end → (Opened g r s e ≡ Opened generation rows start end) × (nat_lt generation h ≡ false)
    by_test true is same = cc same
    by_test false is same = let one : g ≡ generation = cc same in (cc same, ap (λ (n : ℕ). nat_lt n h) (sym one) ∙ is)
won_a Blank Blank generation rows start end same = cc same
won_a Blank Closed generation rows start end same = cc same
won_a Blank (Broken at) generation rows start end same = cc same
won_a Blank (Opened h o f t) generation rows start end same = cc same
won_a Closed Blank generation rows start end same = cc same
won_a Closed Closed generation rows start end same = cc same
won_a Closed (Broken at) generation rows start end same = cc same
won_a Closed (Opened h o f t) generation rows start end same = cc same
won_a (Broken at) Blank generation rows start end same = cc same
won_a (Broken at) Closed generation rows start end same = cc same
won_a (Broken at) (Broken other) generation rows start end same = cc same
won_a (Broken at) (Opened h o f t) generation rows start end same = cc same

won_b : (first second : State) (generation : ℕ) (rows : List Row) (start end : ℕ) → chosen_area first second ≡ Chosen B generation rows start end → (second ≡ Opened generation rows start end) × Yields first B generation
won_b Blank (Opened h o f t) generation rows start end same = (cc same, tt)
won_b Closed (Opened h o f t) generation rows start end same = (cc same, tt)
won_b (Broken at) (Opened h o f t) generation rows start end same = (cc same, tt)
won_b (Opened g r s e) (Opened h o f t) generation rows start end same = by_test (nat_lt g h) refl same
  where
    by_test : (later : Bool) → nat_lt g h ≡ later → (if later then Chosen B h o f t else Chosen A g r s e) ≡ Chosen B generation rows start end → (Opened h o f t ≡ Opened generation rows start end) × (nat_lt g generation ≡ true)
    by_test true is same = let one : h ≡ generation = cc same in (cc same, ap (λ (n : ℕ). nat_lt g n) (sym one) ∙ is)
    by_test false is same = cc same
won_b (Opened g r s e) Blank generation rows start end same = cc same
won_b (Opened g r s e) Closed generation rows start end same = cc same
won_b (Opened g r s e) (Broken at) generation rows start end same = cc same
won_b Blank Blank generation rows start end same = cc same
won_b Blank Closed generation rows start end same = cc same
won_b Blank (Broken at) generation rows start end same = cc same
won_b Closed Blank generation rows start end same = cc same
won_b Closed Closed generation rows start end same = cc same
won_b Closed (Broken at) generation rows start end same = cc same
won_b (Broken at) Blank generation rows start end same = cc same
won_b (Broken at) Closed generation rows start end same = cc same
won_b (Broken at) (Broken other) generation rows start end same = cc same

wins_a : (second : State) (generation : ℕ) (rows : List Row) (start end : ℕ) → Yields second A generation → chosen_area (Opened generation rows start end) second ≡ Chosen A generation rows start end
wins_a Blank generation rows start end yields = refl
wins_a Closed generation rows start end yields = refl
wins_a (Broken at) generation rows start end yields = refl
wins_a (Opened h o f t) generation rows start end yields = ap (λ (later : Bool). if later then Chosen B h o f t else Chosen A generation rows start end) yields

wins_b : (first : State) (generation : ℕ) (rows : List Row) (start end : ℕ) → Yields first B generation → chosen_area first (Opened generation rows start end) ≡ Chosen B generation rows start end
wins_b Blank generation rows start end yields = refl
wins_b Closed generation rows start end yields = refl
wins_b (Broken at) generation rows start end yields = refl
wins_b (Opened g r s e) generation rows start end yields = ap (λ (later : Bool). if later then Chosen B generation rows start end else Chosen A g r s e) yields

-- ---- by bytes: `used` is the area of the bytes `near`, and `far` are those of the other

-- the bytes are in a state that yields
pub record IsYielding (far : List ℕ) (used : Which) (generation : ℕ) : Type 0 where
  pub state : State
  pub is : IsState far state
  pub yields : Yields state used generation

pub chosen_near : (used : Which) (near far : List ℕ) (generation : ℕ) (rows : List Row) (end : ℕ) → IsOpened near generation rows end → IsYielding far used generation
    → IsChoice (of_area used near far) (of_area used far near) (Chosen used generation rows 29 end)
chosen_near A near far generation rows end opened yielding = record {
  first_state = Opened generation rows 29 end;
  second_state = yielding.state;
  first_is = (refl, opened);
  second_is = yielding.is;
  chosen = wins_a yielding.state generation rows 29 end yielding.yields;
}
chosen_near B near far generation rows end opened yielding = record {
  first_state = yielding.state;
  second_state = Opened generation rows 29 end;
  first_is = yielding.is;
  second_is = (refl, opened);
  chosen = wins_b yielding.state generation rows 29 end yielding.yields;
}

opened_near : (area : List ℕ) (state : State) (generation : ℕ) (rows : List Row) (start end : ℕ) → IsState area state → state ≡ Opened generation rows start end → IsOpened area generation rows end
opened_near area state generation rows start end is same = let Is : State → Type 0 = λ s. IsState area s in (subst Is same is).1

pub near_is_opened : (used : Which) (near far : List ℕ) (generation : ℕ) (rows : List Row) (start end : ℕ) → IsChoice (of_area used near far) (of_area used far near) (Chosen used generation rows start end) → IsOpened near generation rows end
near_is_opened A near far generation rows start end choice = opened_near near choice.first_state generation rows start end choice.first_is (won_a choice.first_state choice.second_state generation rows start end choice.chosen).0
near_is_opened B near far generation rows start end choice = opened_near near choice.second_state generation rows start end choice.second_is (won_b choice.first_state choice.second_state generation rows start end choice.chosen).0

pub far_yields : (used : Which) (near far : List ℕ) (generation : ℕ) (rows : List Row) (start end : ℕ) → IsChoice (of_area used near far) (of_area used far near) (Chosen used generation rows start end) → IsYielding far used generation
far_yields A near far generation rows start end choice = record { state = choice.second_state; is = choice.second_is; yields = (won_a choice.first_state choice.second_state generation rows start end choice.chosen).1 }
far_yields B near far generation rows start end choice = record { state = choice.first_state; is = choice.first_is; yields = (won_b choice.first_state choice.second_state generation rows start end choice.chosen).1 }

-- what is not opened yields
pub shut_yields : (far : List ℕ) (used : Which) (generation : ℕ) → IsBlank far ⊎ IsClosed far → IsYielding far used generation
shut_yields far used generation (inl blank) = record { state = Blank; is = blank; yields = tt }
shut_yields [] used generation (inr closed) = absurd closed
shut_yields (gate ∷ []) used generation (inr closed) = record { state = Blank; is = omega arith; yields = tt }
shut_yields (gate ∷ next ∷ rest) used generation (inr closed) = record { state = Closed; is = (omega arith, closed); yields = tt }

-- so does an area of an earlier generation
pub earlier_yields : (far : List ℕ) (used : Which) (generation earlier : ℕ) (rows : List Row) (end : ℕ) → IsOpened far earlier rows end → earlier < generation → IsYielding far used generation
earlier_yields far A generation earlier rows end opened less = record { state = Opened earlier rows 29 end; is = (refl, opened); yields = grind (arith, nat_tests) }
earlier_yields far B generation earlier rows end opened less = record { state = Opened earlier rows 29 end; is = (refl, opened); yields = grind (arith, nat_tests) }

-- the other area is used: it is opened with a later generation
pub chosen_far : (used : Which) (near far : List ℕ) (earlier generation : ℕ) (rows found : List Row) (end gate : ℕ) → IsOpened near earlier rows end → IsOpened far generation found gate → earlier < generation
    → IsChoice (of_area used near far) (of_area used far near) (Chosen (other_area used) generation found 29 gate)
chosen_far A near far earlier generation rows found end gate opened is less = chosen_near B far near generation found gate is (earlier_yields near B generation earlier rows end opened less)
chosen_far B near far earlier generation rows found end gate opened is less = chosen_near A far near generation found gate is (earlier_yields near A generation earlier rows end opened less)
