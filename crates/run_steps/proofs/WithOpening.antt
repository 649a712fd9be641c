-- An opening that takes the place of the last one of its slot, in the lists of openings.
use Rattle.std.proofs.Common.{◌≡◌, ◌⊎◌, inl, inr, ⊎_elim, ℕ, ◌+◌, ◌==◌, ◌<◌, ◌≤◌, Bool, true, false, List, [], ◌∷◌, ◌++◌, Contains, map, if◌then◌else◌, refl, sym, ap, subst, ◌∙◌, arith}
use Rattle.std.proofs.lemmas.Bool.{cond-false, cond-true, eq-eqb, eqb-true, ne_eqb}
use Rattle.std.proofs.lemmas.List.{map-append}
use Rattle.std.proofs.lemmas.List.Elements.{Contains-append_cases, Contains-append_left, Contains-append_right}
use Rattle.std.specs.List.{AllByRecursion}
use Rattle.accounts.specs.Opened.{Opened}
use Rattle.accounts.proofs.Backing.{mapped_there}
use Rattle.accounts.proofs.Grounded.{each_member, of_map}
use Rattle.accounts.proofs.Orderly.{member_is, same_item}
use Rattle.kept_rows.specs.Scans.{AreDistinct}
use Rattle.ship_core.proofs.Members.{first_there, later_there, none_there, there_cases}
use Rattle.told_scans.proofs.TriedAskings.{distinct_both}
use Rattle.wire_base.specs.declared.numbers.Slot.{Slot}
use Rattle.run_steps.specs.Begun.{AreSlotsFrom}
use Rattle.run_steps.specs.Shown.{openings_of}
use Rattle.run_steps.specs.SoFar.{Earlier, as_opened, first_opened, with_opening}
use Rattle.run_steps.proofs.Ordering.{slot_stays}

-- ---- lists without doubles

distinct_none : (xs ys : List ℕ) → AreDistinct (xs ++ ys) → (n : ℕ) → Contains xs n → Contains ys n → ⊥
distinct_none [] ys apart n one other = none_there n one
distinct_none (m ∷ xs) ys apart n one other =
    ⊎_elim (λ (same : m ≡ n). apart.0 (subst (Contains (xs ++ ys)) (sym same) (Contains-append_right xs ys n other))) (λ later. distinct_none xs ys apart.1 n later other) (there_cases m n xs one)

distinct_front : (xs ys : List ℕ) → AreDistinct (xs ++ ys) → AreDistinct xs
distinct_front [] ys apart = tt
distinct_front (m ∷ xs) ys apart = ((λ there. apart.0 (Contains-append_left xs ys m there)), distinct_front xs ys apart.1)

distinct_behind : (xs ys : List ℕ) → AreDistinct (xs ++ ys) → AreDistinct ys
distinct_behind [] ys apart = apart
distinct_behind (m ∷ xs) ys apart = distinct_behind xs ys apart.1

-- ---- in the place of another one

abbrev slot_numbers : List Opened → List ℕ
slot_numbers some = map (λ (one : Opened). one.begin.slot.0) some

module _ (next : Opened) where
  abbrev pub IsOther : Opened → Type 0
  IsOther one = one.begin.slot.0 ≡ next.begin.slot.0 → ⊥

  as_other : (one : Opened) → IsOther one → as_opened next one ≡ one
  as_other one other = cond-false (one.begin.slot.0 == next.begin.slot.0) next one (ne_eqb one.begin.slot.0 next.begin.slot.0 other)

  as_next : (one : Opened) → one.begin.slot.0 ≡ next.begin.slot.0 → as_opened next one ≡ next
  as_next one same = cond-true (one.begin.slot.0 == next.begin.slot.0) next one (eq-eqb one.begin.slot.0 next.begin.slot.0 same)

  pub members : (some : List Opened) (one : Opened) → Contains (with_opening next some) one → (one ≡ next) ⊎ (Contains some one × IsOther one)
  members [] one there = absurd (none_there one there)
  members (first ∷ some) one there = by_slot (first.begin.slot.0 == next.begin.slot.0) refl (there_cases (as_opened next first) one (with_opening next some) there) (members some one)
    where
      by_slot : (b : Bool) → (first.begin.slot.0 == next.begin.slot.0) ≡ b → ((if b then next else first) ≡ one) ⊎ Contains (with_opening next some) one →
          (Contains (with_opening next some) one → (one ≡ next) ⊎ (Contains some one × IsOther one)) → (one ≡ next) ⊎ (Contains (first ∷ some) one × IsOther one)
      by_slot true is (inl same) later = inl (sym same)
      by_slot false is (inl same) later = inr (
        subst (Contains (first ∷ some)) same (first_there first some),
        λ slots. let yes = eq-eqb first.begin.slot.0 next.begin.slot.0 (ap (λ (o : Opened). o.begin.slot.0) same ∙ slots) in let q : true ≡ false = sym yes ∙ is in cc,
      )
      by_slot b is (inr behind) later = ⊎_elim inl (λ of. inr (later_there first one some of.0, of.1)) (later behind)

  pub others_there : (some : List Opened) (one : Opened) → Contains some one → IsOther one → Contains (with_opening next some) one
  others_there [] one there other = absurd (none_there one there)
  others_there (first ∷ some) one there other =
      ⊎_elim (λ (same : first ≡ one). subst (Contains (with_opening next (first ∷ some))) (as_other first (subst IsOther (sym same) other) ∙ same) (first_there (as_opened next first) (with_opening next some)))
      (λ later. later_there (as_opened next first) one (with_opening next some) (others_there some one later other)) (there_cases first one some there)

  pub next_there : (some : List Opened) (one : Opened) → Contains some one → one.begin.slot.0 ≡ next.begin.slot.0 → Contains (with_opening next some) next
  next_there [] one there same = absurd (none_there one there)
  next_there (first ∷ some) one there same =
      ⊎_elim (λ (is : first ≡ one). subst (Contains (with_opening next (first ∷ some))) (as_next first (ap (λ (o : Opened). o.begin.slot.0) is ∙ same)) (first_there (as_opened next first) (with_opening next some)))
      (λ later. later_there (as_opened next first) next (with_opening next some) (next_there some one later same)) (there_cases first one some there)

  pub each_with : (P : Opened → Type 0) (some : List Opened) → AllByRecursion P some → P next → AllByRecursion P (with_opening next some)
  each_with P some each is = each_member P (with_opening next some) (λ one there. ⊎_elim (λ same. subst P (sym same) is) (λ of. member_is P some one each of.0) (members some one there))

  pub slots_with : (some : List Opened) → map (λ (one : Opened). one.begin.slot) (with_opening next some) ≡ map (λ (one : Opened). one.begin.slot) some
  slots_with [] = refl
  slots_with (one ∷ some) = (λ k. slot_stays next one k ∷ slots_with some k)

  pub rise_with : (least : ℕ) (some : List Opened) → AreSlotsFrom least some → AreSlotsFrom least (with_opening next some)
  rise_with least [] rise = tt
  rise_with least (one ∷ some) rise = (
    subst (λ (s : Slot). least ≤ s.0) (sym (slot_stays next one)) rise.0,
    subst (λ (s : Slot). AreSlotsFrom (s.0 + 1) (with_opening next some)) (sym (slot_stays next one)) (rise_with (one.begin.slot.0 + 1) some rise.1),
  )

  unchanged : (some : List Opened) → AllByRecursion IsOther some → with_opening next some ≡ some
  unchanged [] each = refl
  unchanged (one ∷ some) each = (λ k. as_other one each.0 k ∷ unchanged some each.1 k)

  -- ---- and back

  module _ (last : Opened) (same : next.begin.slot.0 ≡ last.begin.slot.0) where
    as_back : (one : Opened) → (one.begin.slot.0 ≡ last.begin.slot.0 → last ≡ one) → as_opened last (as_opened next one) ≡ one
    as_back one is = by_slot (one.begin.slot.0 == next.begin.slot.0) refl
      where
        by_slot : (b : Bool) → (one.begin.slot.0 == next.begin.slot.0) ≡ b → as_opened last (as_opened next one) ≡ one
        by_slot true e =
            let slots = eqb-true one.begin.slot.0 next.begin.slot.0 e in
            ap (as_opened last) (as_next one slots) ∙ cond-true (next.begin.slot.0 == last.begin.slot.0) last next (eq-eqb next.begin.slot.0 last.begin.slot.0 same) ∙ is (slots ∙ same)
        by_slot false e =
            let other : IsOther one = λ slots. let yes = eq-eqb one.begin.slot.0 next.begin.slot.0 slots in let q : true ≡ false = sym yes ∙ e in cc in
            ap (as_opened last) (as_other one other)
            ∙ cond-false (one.begin.slot.0 == last.begin.slot.0) last one (ne_eqb one.begin.slot.0 last.begin.slot.0 (λ slots. other (slots ∙ sym same)))

    restored : (some : List Opened) → ((one : Opened) → Contains some one → one.begin.slot.0 ≡ last.begin.slot.0 → last ≡ one) → with_opening last (with_opening next some) ≡ some
    restored [] is = refl
    restored (one ∷ some) is =
        (λ k. as_back one (is one (first_there one some)) k ∷ restored some (λ other there. is other (later_there one other some there)) k)

    -- the files as they were opened first
    pub first_same : (earlier : List Earlier) (one : Earlier) (opened : List Opened) → one.opened ≡ last →
        ((other : Opened) → Contains opened other → other.begin.slot.0 ≡ last.begin.slot.0 → last ≡ other) → first_opened (earlier ++ one ∷ []) (with_opening next opened) ≡ first_opened earlier opened
    first_same [] one opened is only = ap (λ (o : Opened). with_opening o (with_opening next opened)) is ∙ restored opened only
    first_same (other ∷ earlier) one opened is only = ap (with_opening other.opened) (first_same earlier one opened is only)

  -- ---- their numbers

  distinct_with : (some : List Opened) → AreDistinct (openings_of some) → ((n : ℕ) → Contains (openings_of some) n → n < next.opening) → AreDistinct (slot_numbers some) →
      AreDistinct (openings_of (with_opening next some))
  distinct_with [] apart less slots = tt
  distinct_with (first ∷ some) apart less slots = (
    by_slot (first.begin.slot.0 == next.begin.slot.0) refl,
    distinct_with some apart.1 (λ n there. less n (later_there first.opening n (openings_of some) there)) slots.1,
  )
    where
      by_slot : (b : Bool) → (first.begin.slot.0 == next.begin.slot.0) ≡ b → Contains (openings_of (with_opening next some)) (if b then next else first).opening → ⊥
      by_slot true e there =
          let none : AllByRecursion IsOther some = each_member IsOther some (λ one among same.
          slots.0 (subst (Contains (slot_numbers some)) (same ∙ sym (eqb-true first.begin.slot.0 next.begin.slot.0 e)) (mapped_there (λ (o : Opened). o.begin.slot.0) some one among))) in
          let below = less next.opening (later_there first.opening next.opening (openings_of some) (subst (λ (l : List Opened). Contains (openings_of l) next.opening) (unchanged some none) there)) in
          omega (arith, below)
      by_slot false e there =
          let of = of_map (λ (o : Opened). o.opening) (with_opening next some) first.opening there in
          ⊎_elim (λ same. let below = less first.opening (first_there first.opening (openings_of some)) in let is = ap (λ (o : Opened). o.opening) (sym same) ∙ of.is in omega (arith, below, is))
          (λ other. apart.0 (subst (Contains (openings_of some)) of.is (mapped_there (λ (o : Opened). o.opening) some of.item other.0)))
          (members some of.item of.among)

  -- with the last one of its slot behind the earlier ones
  module _ (before some : List Opened) (last : Opened) (among : Contains some last) (same : next.begin.slot.0 ≡ last.begin.slot.0) (slots : AreDistinct (slot_numbers some))
      (apart : AreDistinct (openings_of (before ++ some))) (less : (n : ℕ) → Contains (openings_of (before ++ some)) n → n < next.opening) where
    numbers_apart : AreDistinct (openings_of before ++ openings_of some)
    numbers_apart = subst AreDistinct (map-append (λ (o : Opened). o.opening) before some) apart

    less_of : (n : ℕ) → Contains (openings_of before) n ⊎ Contains (openings_of some) n → n < next.opening
    less_of n there = less n (subst (λ (l : List ℕ). Contains l n) (sym (map-append (λ (o : Opened). o.opening) before some))
        (⊎_elim (Contains-append_left (openings_of before) (openings_of some) n) (Contains-append_right (openings_of before) (openings_of some) n) there))

    last_number : Contains (openings_of some) last.opening
    last_number = mapped_there (λ (o : Opened). o.opening) some last among

    one_of : (n : ℕ) → Contains (openings_of before ++ last.opening ∷ []) n → Contains (openings_of before) n ⊎ (last.opening ≡ n)
    one_of n there = ⊎_elim inl (λ behind. ⊎_elim inr (λ none. absurd (none_there n none)) (there_cases last.opening n [] behind)) (Contains-append_cases (openings_of before) (last.opening ∷ []) n there)

    front_apart : AreDistinct (openings_of before ++ last.opening ∷ [])
    front_apart = distinct_both (openings_of before) (last.opening ∷ []) (distinct_front (openings_of before) (openings_of some) numbers_apart) ((λ there. none_there last.opening there), tt)
        (λ n one other. ⊎_elim (λ (is : last.opening ≡ n). distinct_none (openings_of before) (openings_of some) numbers_apart n one (subst (Contains (openings_of some)) is last_number))
        (λ none. none_there n none) (there_cases last.opening n [] other))

    none_in_both : (n : ℕ) → Contains (openings_of before ++ last.opening ∷ []) n → Contains (openings_of (with_opening next some)) n → ⊥
    none_in_both n one there =
        let of = of_map (λ (o : Opened). o.opening) (with_opening next some) n there in
        let was : Contains (openings_of before) n ⊎ Contains (openings_of some) n = ⊎_elim inl (λ (is : last.opening ≡ n). inr (subst (Contains (openings_of some)) is last_number)) (one_of n one) in
        ⊎_elim (λ is. let below = less_of n was in let at = ap (λ (o : Opened). o.opening) (sym is) ∙ of.is in omega (arith, below, at))
        (λ other. ⊎_elim
        (λ early. distinct_none (openings_of before) (openings_of some) numbers_apart n early (subst (Contains (openings_of some)) of.is (mapped_there (λ (o : Opened). o.opening) some of.item other.0)))
        (λ (is : last.opening ≡ n).
        let it : last ≡ of.item = same_item (λ (o : Opened). o.opening) some last of.item (distinct_behind (openings_of before) (openings_of some) numbers_apart) among other.0 (is ∙ sym of.is) in
        other.1 (ap (λ (o : Opened). o.begin.slot.0) (sym it) ∙ sym same)) (one_of n one))
        (members some of.item of.among)

    pub all_apart : AreDistinct (openings_of ((before ++ last ∷ []) ++ with_opening next some))
    all_apart = subst AreDistinct (sym (map-append (λ (o : Opened). o.opening) (before ++ last ∷ []) (with_opening next some)))
        (subst (λ (l : List ℕ). AreDistinct (l ++ openings_of (with_opening next some))) (sym (map-append (λ (o : Opened). o.opening) before (last ∷ [])))
        (distinct_both (openings_of before ++ last.opening ∷ []) (openings_of (with_opening next some)) front_apart
        (distinct_with some (distinct_behind (openings_of before) (openings_of some) numbers_apart) (λ n there. less_of n (inr there)) slots) none_in_both))
