-- An opening that is put among others in the order of the slots, of which none has its slot.
use Rattle.std.proofs.Common.{◌≡◌, ◌⊎◌, inl, inr, ⊎_elim, ℕ, ◌+◌, ◌==◌, ◌<◌, ◌≤◌, nat_le, Bool, true, false, List, [], ◌∷◌, ◌++◌, Contains, Option, None, Some, map, if◌then◌else◌, refl, sym, ap, subst, ◌∙◌, arith}
use Rattle.std.proofs.lemmas.Bool.{cases_lt, cond-false, leb-false, leb-true, ne_eqb}
use Rattle.std.proofs.lemmas.List.Elements.{Contains-append_cases, Contains-append_left, Contains-append_right}
use Rattle.std.specs.List.{AllByRecursion}
use Rattle.accounts.proofs.Backing.{mapped_there}
use Rattle.accounts.proofs.Grounded.{of_map}
use Rattle.accounts.specs.Opened.{Opened}
use Rattle.kept_rows.specs.Scans.{AreDistinct}
use Rattle.pass_sums.specs.Weight.{AsOften, weigh}
use Rattle.ship_core.proofs.Members.{first_there, later_there, none_there, there_cases}
use Rattle.wire_base.specs.declared.numbers.Slot.{Slot}
use Rattle.run_steps.specs.Begun.{AreSlotsFrom}
use Rattle.run_steps.specs.Earlier.{first_of}
use Rattle.run_steps.specs.OpenedFirst.{put_opened}
use Rattle.run_steps.specs.Shown.{openings_of}
use Rattle.run_steps.specs.SoFar.{Earlier, as_opened, first_opened, with_opening}
use Rattle.run_steps.proofs.Ordering.{slot_stays}

abbrev slots_of : List Opened → List Slot
slots_of some = map (λ (o : Opened). o.begin.slot) some

module _ (one : Opened) where
  abbrev pub HasOther : Opened → Type 0
  HasOther other = other.begin.slot.0 ≡ one.begin.slot.0 → ⊥

  -- ---- which they are

  pub put_cases : (some : List Opened) (x : Opened) → Contains (put_opened one some) x → (x ≡ one) ⊎ Contains some x
  put_cases [] x there = ⊎_elim (λ (same : one ≡ x). inl (sym same)) (λ none. absurd (none_there x none)) (there_cases one x [] there)
  put_cases (other ∷ some) x there = by_place (nat_le one.begin.slot.0 other.begin.slot.0) there (put_cases some x)
    where
      by_place : (b : Bool) → Contains (if b then one ∷ other ∷ some else other ∷ put_opened one some) x → (Contains (put_opened one some) x → (x ≡ one) ⊎ Contains some x) →
          (x ≡ one) ⊎ Contains (other ∷ some) x
      by_place true is later = ⊎_elim (λ (same : one ≡ x). inl (sym same)) (λ behind. inr behind) (there_cases one x (other ∷ some) is)
      by_place false is later = ⊎_elim (λ (same : other ≡ x). inr (subst (Contains (other ∷ some)) same (first_there other some)))
          (λ behind. ⊎_elim inl (λ old. inr (later_there other x some old)) (later behind)) (there_cases other x (put_opened one some) is)

  pub put_there : (some : List Opened) → Contains (put_opened one some) one
  put_there [] = first_there one []
  put_there (other ∷ some) = by_place (nat_le one.begin.slot.0 other.begin.slot.0) (put_there some)
    where
      by_place : (b : Bool) → Contains (put_opened one some) one → Contains (if b then one ∷ other ∷ some else other ∷ put_opened one some) one
      by_place true later = first_there one (other ∷ some)
      by_place false later = later_there other one (put_opened one some) later

  pub put_others : (some : List Opened) (x : Opened) → Contains some x → Contains (put_opened one some) x
  put_others [] x there = absurd (none_there x there)
  put_others (other ∷ some) x there = by_place (nat_le one.begin.slot.0 other.begin.slot.0) (put_others some x)
    where
      by_place : (b : Bool) → (Contains some x → Contains (put_opened one some) x) → Contains (if b then one ∷ other ∷ some else other ∷ put_opened one some) x
      by_place true later = later_there one x (other ∷ some) there
      by_place false later = ⊎_elim (λ (same : other ≡ x). subst (Contains (other ∷ put_opened one some)) same (first_there other (put_opened one some)))
          (λ behind. later_there other x (put_opened one some) (later behind)) (there_cases other x some there)

  -- ---- their slots

  pub put_rise : (least : ℕ) (some : List Opened) → AreSlotsFrom least some → least ≤ one.begin.slot.0 → AllByRecursion HasOther some → AreSlotsFrom least (put_opened one some)
  put_rise least [] rise le others = (le, tt)
  put_rise least (other ∷ some) rise le others = by_place (nat_le one.begin.slot.0 other.begin.slot.0) refl (λ more. put_rise (other.begin.slot.0 + 1) some rise.1 more others.1)
    where
      above : one.begin.slot.0 ≤ other.begin.slot.0 → one.begin.slot.0 + 1 ≤ other.begin.slot.0
      above at_most = ⊎_elim (λ less. omega (arith, less)) (λ least_it. absurd (others.0 (omega (arith, at_most, least_it)))) (cases_lt one.begin.slot.0 other.begin.slot.0)

      by_place : (b : Bool) → nat_le one.begin.slot.0 other.begin.slot.0 ≡ b → (other.begin.slot.0 + 1 ≤ one.begin.slot.0 → AreSlotsFrom (other.begin.slot.0 + 1) (put_opened one some)) →
          AreSlotsFrom least (if b then one ∷ other ∷ some else other ∷ put_opened one some)
      by_place true is later = (le, (above (leb-true one.begin.slot.0 other.begin.slot.0 is), rise.1))
      by_place false is later = (rise.0, later (let less = leb-false one.begin.slot.0 other.begin.slot.0 is in omega (arith, less)))

  pub put_slots : (some : List Opened) → AsOften (slots_of (put_opened one some)) (one.begin.slot ∷ slots_of some)
  put_slots [] h = refl
  put_slots (other ∷ some) h = by_place (nat_le one.begin.slot.0 other.begin.slot.0) (put_slots some h)
    where
      by_place : (b : Bool) → weigh h (slots_of (put_opened one some)) ≡ weigh h (one.begin.slot ∷ slots_of some) →
          weigh h (slots_of (if b then one ∷ other ∷ some else other ∷ put_opened one some)) ≡ weigh h (one.begin.slot ∷ other.begin.slot ∷ slots_of some)
      by_place true later = refl
      by_place false later = omega (arith, later)

  pub put_first_of : (slot : Slot) → (one.begin.slot.0 ≡ slot.0 → ⊥) → (front some : List Opened) → first_of slot (front ++ put_opened one some) ≡ first_of slot (front ++ some)
  put_first_of slot other [] [] = cond-false (one.begin.slot.0 == slot.0) (Some one) None (ne_eqb one.begin.slot.0 slot.0 other)
  put_first_of slot other [] (first ∷ some) = by_place (nat_le one.begin.slot.0 first.begin.slot.0) (put_first_of slot other [] some)
    where
      by_place : (b : Bool) → first_of slot (put_opened one some) ≡ first_of slot some → first_of slot (if b then one ∷ first ∷ some else first ∷ put_opened one some) ≡ first_of slot (first ∷ some)
      by_place true later = cond-false (one.begin.slot.0 == slot.0) (Some one) (first_of slot (first ∷ some)) (ne_eqb one.begin.slot.0 slot.0 other)
      by_place false later = ap (λ (o : Option Opened). if first.begin.slot.0 == slot.0 then Some first else o) later
  put_first_of slot other (first ∷ front) some = ap (λ (o : Option Opened). if first.begin.slot.0 == slot.0 then Some first else o) (put_first_of slot other front some)

  -- ---- as files were opened first

  put_with : (before : Opened) → HasOther before → (some : List Opened) → with_opening before (put_opened one some) ≡ put_opened one (with_opening before some)
  put_with before is_other [] = ap (λ (o : Opened). o ∷ []) (stays before is_other)
    where
      stays : (e : Opened) → HasOther e → as_opened e one ≡ one
      stays e of = cond-false (one.begin.slot.0 == e.begin.slot.0) e one (ne_eqb one.begin.slot.0 e.begin.slot.0 (λ same. of (sym same)))
  put_with before is_other (other ∷ some) =
      by_place (nat_le one.begin.slot.0 other.begin.slot.0) (put_with before is_other some)
      ∙ ap (λ (s : Slot). if nat_le one.begin.slot.0 s.0 then one ∷ as_opened before other ∷ with_opening before some else as_opened before other ∷ put_opened one (with_opening before some)) (sym (slot_stays before other))
    where
      stays : as_opened before one ≡ one
      stays = cond-false (one.begin.slot.0 == before.begin.slot.0) before one (ne_eqb one.begin.slot.0 before.begin.slot.0 (λ same. is_other (sym same)))

      by_place : (b : Bool) → with_opening before (put_opened one some) ≡ put_opened one (with_opening before some) →
          with_opening before (if b then one ∷ other ∷ some else other ∷ put_opened one some)
          ≡ (if b then one ∷ as_opened before other ∷ with_opening before some else as_opened before other ∷ put_opened one (with_opening before some))
      by_place true later = ap (λ (o : Opened). o ∷ as_opened before other ∷ with_opening before some) stays
      by_place false later = ap (λ (l : List Opened). as_opened before other ∷ l) later

  pub put_first : (earlier : List Earlier) (some : List Opened) → AllByRecursion (λ (e : Earlier). HasOther e.opened) earlier →
      first_opened earlier (put_opened one some) ≡ put_opened one (first_opened earlier some)
  put_first [] some others = refl
  put_first (e ∷ earlier) some others = ap (with_opening e.opened) (put_first earlier some others.1) ∙ put_with e.opened others.0 (first_opened earlier some)

  -- ---- their places in the folder's list

  pub put_number : (before some : List Opened) (n : ℕ) → Contains (openings_of (before ++ put_opened one some)) n → (n ≡ one.opening) ⊎ Contains (openings_of (before ++ some)) n
  put_number before some n there =
      let of = of_map (λ (o : Opened). o.opening) (before ++ put_opened one some) n there in
      ⊎_elim (λ early. inr (old of.item of.is (Contains-append_left before some of.item early)))
      (λ late. ⊎_elim (λ same. inl (sym of.is ∙ ap (λ (o : Opened). o.opening) same)) (λ other. inr (old of.item of.is (Contains-append_right before some of.item other))) (put_cases some of.item late))
      (Contains-append_cases before (put_opened one some) of.item of.among)
    where
      old : (item : Opened) → item.opening ≡ n → Contains (before ++ some) item → Contains (openings_of (before ++ some)) n
      old item is among = subst (Contains (openings_of (before ++ some))) is (mapped_there (λ (o : Opened). o.opening) (before ++ some) item among)

  pub put_apart : (before some : List Opened) → AreDistinct (openings_of (before ++ some)) → ((n : ℕ) → Contains (openings_of (before ++ some)) n → n < one.opening) →
      AreDistinct (openings_of (before ++ put_opened one some))
  put_apart [] [] apart less = ((λ there. none_there one.opening there), tt)
  put_apart [] (other ∷ some) apart less =
      by_place (nat_le one.begin.slot.0 other.begin.slot.0) (put_apart [] some apart.1 (λ n there. less n (later_there other.opening n (openings_of some) there)))
    where
      by_place : (b : Bool) → AreDistinct (openings_of (put_opened one some)) → AreDistinct (openings_of (if b then one ∷ other ∷ some else other ∷ put_opened one some))
      by_place true later = ((λ there. let below = less one.opening there in omega (arith, below)), apart)
      by_place false later = (
        (λ there. ⊎_elim (λ same. let below = less other.opening (first_there other.opening (openings_of some)) in omega (arith, below, same)) (λ old. apart.0 old) (put_number [] some other.opening there)),
        later,
      )
  put_apart (first ∷ before) some apart less = (
    (λ there. ⊎_elim (λ same. let below = less first.opening (first_there first.opening (openings_of (before ++ some))) in omega (arith, below, same)) (λ old. apart.0 old) (put_number before some first.opening there)),
    put_apart before some apart.1 (λ n there. less n (later_there first.opening n (openings_of (before ++ some)) there)),
  )
