-- An area that is as it was before the run, and opened: it was not used then, or it has the rows that the run opened.
use Rattle.std.proofs.Common.{◌≡◌, ◌⊎◌, inl, inr, ⊎_elim, ℕ, ◌≤◌, Bool, true, false, nat_lt, if◌then◌else◌, List, [], Some, refl, sym, ap, subst, ◌∙◌, arith}
use Rattle.std.proofs.lemmas.Bool.Decides.{nat_tests}
use Rattle.registry_log.specs.State.{Blank, Broken, Closed, IsOpened, IsState, Opened, State}
use Rattle.registry_store.specs.Choice.{Choice, Chosen, IsChoice, chosen_area, rows_of}
use Rattle.registry_store.specs.Settled.{AreAtRest}
use Rattle.registry_store.specs.Sides.{of_area, other_area}
use Rattle.rounds.specs.Words.{DiskWords}
use Rattle.wire_base.specs.declared.limits.Which.{Which}
use Rattle.wire_base.specs.declared.limits.Which.TheVariants.{A, B}
use Rattle.wire_base.specs.declared.row.Row.{Row}
use Rattle.run_steps.specs.Areas.{GiveTheRows}
use Rattle.run_steps.specs.Together.{Areas, area_in}
use Rattle.run_steps.specs.UnusedArea.{IsOfUnusedArea}
use Rattle.run_steps.proofs.HeldRows.{some_of}
use Rattle.told_scans.proofs.Members.{some_is}
use Rattle.run_steps.proofs.RunRows.{OneChoice, chosen_alone}

-- ---- by states

-- another area is chosen beside one of this generation
record IsPassedBy (area : Which) (generation : ℕ) (choice : Choice) : Type 0 where
  used : ℕ
  rows : List Row
  start : ℕ
  end : ℕ
  is : choice ≡ Chosen (other_area area) used rows start end
  at_least : generation ≤ used

-- or that one is
abbrev IsPassedOrGives : Which → ℕ → List Row → Choice → Type 0
IsPassedOrGives area generation rows choice = IsPassedBy area generation choice ⊎ (rows_of choice ≡ Some rows)

opened_a : (second : State) (generation : ℕ) (rows : List Row) (end : ℕ) → IsPassedOrGives A generation rows (chosen_area (Opened generation rows 29 end) second)
opened_a (Opened other others from to) generation rows end = by_later (nat_lt generation other) refl
  where
    by_later : (b : Bool) → nat_lt generation other ≡ b → IsPassedOrGives A generation rows (if b then Chosen B other others from to else Chosen A generation rows 29 end)
    by_later true later = let less : generation ≤ other = grind (arith, nat_tests) in inl (record { used = other; rows = others; start = from; end = to; is = refl; at_least = less })
    by_later false later = inr refl
opened_a Blank generation rows end = inr refl
opened_a Closed generation rows end = inr refl
opened_a (Broken at) generation rows end = inr refl

opened_b : (first : State) (generation : ℕ) (rows : List Row) (end : ℕ) → IsPassedOrGives B generation rows (chosen_area first (Opened generation rows 29 end))
opened_b (Opened other others from to) generation rows end = by_later (nat_lt other generation) refl
  where
    by_later : (b : Bool) → nat_lt other generation ≡ b → IsPassedOrGives B generation rows (if b then Chosen B generation rows 29 end else Chosen A other others from to)
    by_later true later = inr refl
    by_later false later = let less : generation ≤ other = grind (arith, nat_tests) in inl (record { used = other; rows = others; start = from; end = to; is = refl; at_least = less })
opened_b Blank generation rows end = inr refl
opened_b Closed generation rows end = inr refl
opened_b (Broken at) generation rows end = inr refl

module _ (one : OneChoice) where
  -- ---- by bytes

  -- an area that is opened has this state alone
  opened_state : (area : List ℕ) (state : State) (generation : ℕ) (rows : List Row) (end : ℕ) → IsState area state → IsOpened area generation rows end → state ≡ Opened generation rows 29 end
  opened_state area state generation rows end is opened =
      by_state state
      (one area [] (chosen_area state Blank) (Chosen A generation rows 29 end) (record { first_state = state; second_state = Blank; first_is = is; second_is = omega arith; chosen = refl })
      (chosen_alone one area generation rows end opened))
    where
      by_state : (s : State) → chosen_area s Blank ≡ Chosen A generation rows 29 end → s ≡ Opened generation rows 29 end
      by_state Blank same = cc same
      by_state Closed same = cc same
      by_state (Opened other others from to) same = cc same
      by_state (Broken at) same = cc same

  passed_or_gives : (area : Which) (first second : List ℕ) (choice : Choice) (bytes : List ℕ) (generation : ℕ) (rows : List Row) (end : ℕ) → of_area area first second ≡ bytes → IsChoice first second choice →
      IsOpened bytes generation rows end → IsPassedOrGives area generation rows choice
  passed_or_gives A first second choice bytes generation rows end is chosen opened =
      let state = opened_state first chosen.first_state generation rows end chosen.first_is (subst (λ (l : List ℕ). IsOpened l generation rows end) (sym is) opened) in
      subst (IsPassedOrGives A generation rows) (ap (λ (s : State). chosen_area s chosen.second_state) (sym state) ∙ chosen.chosen) (opened_a chosen.second_state generation rows end)
  passed_or_gives B first second choice bytes generation rows end is chosen opened =
      let state = opened_state second chosen.second_state generation rows end chosen.second_is (subst (λ (l : List ℕ). IsOpened l generation rows end) (sym is) opened) in
      subst (IsPassedOrGives B generation rows) (ap (λ (s : State). chosen_area chosen.first_state s) (sym state) ∙ chosen.chosen) (opened_b chosen.first_state generation rows end)

  -- ---- by disks

  module _ {D : Type 0} (disks : DiskWords D) (areas : Areas D) (rest : AreAtRest disks.contents disks.images areas.a areas.b) (opening : List Row) (gave : GiveTheRows disks areas.a areas.b opening) where
    told_bytes : (area : Which) (first second bytes : List ℕ) → disks.contents areas.a ≡ Some first → disks.contents areas.b ≡ Some second → disks.contents (area_in areas area) ≡ Some bytes →
        of_area area first second ≡ bytes
    told_bytes A first second bytes a_told b_told told = some_is first bytes (sym a_told ∙ told)
    told_bytes B first second bytes a_told b_told told = some_is second bytes (sym b_told ∙ told)

    pub unused_or_opening : (area : Which) (bytes : List ℕ) (generation : ℕ) (rows : List Row) (end : ℕ) → disks.contents (area_in areas area) ≡ Some bytes → IsOpened bytes generation rows end →
        IsOfUnusedArea disks areas area bytes generation ⊎ (rows ≡ opening)
    unused_or_opening area bytes generation rows end told opened =
        let (first, a_told) = some_of (disks.contents areas.a) rest.a_told in
        let (second, b_told) = some_of (disks.contents areas.b) rest.b_told in
        let gives = gave first second a_told b_told in
        ⊎_elim
        (λ passed. inl (record {
          told = told;
          used = passed.used;
          rows = passed.rows;
          start = passed.start;
          end = passed.end;
          other_is_chosen = record { first = first; second = second; a_told = a_told; b_told = b_told; chosen = subst (IsChoice first second) passed.is gives.chosen };
          at_least = passed.at_least;
        }))
        (λ given. inr (some_is rows opening (sym given ∙ gives.given)))
        (passed_or_gives area first second gives.choice bytes generation rows end (told_bytes area first second bytes a_told b_told told) gives.chosen opened)
