-- Skipped paths that were put in order and are told once each.
use Rattle.std.proofs.Common.{◌≡◌, ℕ, zero, suc, ◌<◌, ◌==◌, Bool, true, cond, List, [], ◌∷◌, length, get_or, map, Contains, refl, sym, ap, ◌∙◌, subst, inl, inr, ◌⊎◌, arith}
use Rattle.std.proofs.lemmas.Cmp.{eq_by_cmp_equiv, nat_list_cmp_total, on_total, then_total, tied_itself}
use Rattle.std.proofs.lemmas.List.Elements.{All-contains, All-from_recursion, Contains-get_or}
use Rattle.std.proofs.lemmas.List.Kept.{Any-dedup, Contains-from_dedup, IsStrictlySortedBy-dedup}
use Rattle.std.proofs.lemmas.List.Sorted.{Contains-permutation, IsPermutation-sym, ranks_by}
use Rattle.std.proofs.lemmas.Map.Keys.{sorted_head, sorted_tail}
use Rattle.std.specs.Cmp.{IsEquivalence, IsStrictWeakOrder, IsTotalOrder}
use Rattle.std.specs.Cmp.Derive.{one_truth}
use Rattle.std.specs.List.{AllByRecursion, dedup}
use Rattle.std.specs.List.Sorted.{IsPermutation, IsSorted, IsStrictlySortedBy}
use Rattle.std.specs.Ordering.{eq_by_cmp, is_eq, is_lt, ordering_reverse, ordering_then}
use Rattle.std.specs.declared.cmp.Ordering.{Ordering}
use Rattle.std.specs.declared.cmp.Ordering.TheVariants.{Less, Equal, Greater}
use Rattle.wire_base.specs.declared.row.Row.{Row}
use Rattle.wire_base.specs.KeyOrder.{compare}
use Rattle.wire_base.proofs.ByteOrder.{same_key}
use Rattle.report.specs.declared.passing.Passing.{Passing}
use Rattle.report.specs.declared.passing.Why.{Why}
use Rattle.report.specs.declared.passing.Why.TheVariants.{Doubled, Gone, Moved, Old, Small}
use Rattle.report.specs.declared.status.Status.{Status}
use Rattle.report.specs.Passings.{ArePassings, compare_passings, why_text}
use Rattle.report.specs.Report.{IsReport, report_bytes}

-- ---- the order

passings_total : IsTotalOrder compare_passings
passings_total = then_total (on_total (λ one. one.path) nat_list_cmp_total) (on_total (λ one. why_text one.why) nat_list_cmp_total)

-- the reason whose name begins so
named_by : List ℕ → Why
named_by [] = Small
named_by (letter ∷ letters) =
    cond (letter == 0x64) Doubled (cond (letter == 0x67) Gone (cond (letter == 0x6D) Moved (cond (letter == 0x6F) Old Small)))

named : (why : Why) → named_by (why_text why) ≡ why
unfolding named_by
named Doubled = refl
named Gone = refl
named Moved = refl
named Old = refl
named Small = refl

same_why : (one other : Why) → compare (why_text one) (why_text other) ≡ Equal → one ≡ other
same_why one other tied = sym (named one) ∙ ap named_by (same_key (why_text one) (why_text other) tied) ∙ named other

-- skipped paths that the order ties are the same
same_passing : (one other : Passing) → compare_passings one other ≡ Equal → one ≡ other
same_passing one other tied = by_paths (compare one.path other.path) refl tied
  where
    by_paths : (paths : Ordering) → compare one.path other.path ≡ paths → ordering_then paths (compare (why_text one.why) (why_text other.why)) ≡ Equal → one ≡ other
    by_paths Less is tied = cc
    by_paths Equal is tied =
        let path : one.path ≡ other.path = same_key one.path other.path is in
        let why : one.why ≡ other.why = same_why one.why other.why tied in
        λ k. record { path = path k; why = why k }
    by_paths Greater is tied = cc

tied_from : (order : Ordering) → is_eq order ≡ true → order ≡ Equal
tied_from Less is = cc
tied_from Equal is = refl
tied_from Greater is = cc

-- ---- members of a list

first_of : {A : Type 0} (first : A) (list : List A) → Contains (first ∷ list) first
first_of first list = (0, omega arith, refl)

later_of : {A : Type 0} (first one : A) (list : List A) → Contains list one → Contains (first ∷ list) one
later_of first one list is = (suc is.0, omega (arith, is.1), is.2)

member_cases : {A : Type 0} (first one : A) (list : List A) → Contains (first ∷ list) one → (first ≡ one) ⊎ Contains list one
member_cases first one list is = by_place is.0 is.1 is.2
  where
    by_place : (k : ℕ) → k < length (first ∷ list) → get_or (first ∷ list) k one ≡ one → (first ≡ one) ⊎ Contains list one
    by_place zero inside is = inl is
    by_place (suc k) inside is = inr (k, omega arith, is)

mapped_member : {A B : Type 0} (f : A → B) (one : A) (list : List A) → Contains list one → Contains (map f list) (f one)
mapped_member f one [] is = absurd (omega (arith, is.1))
mapped_member f one (first ∷ list) is = elim (member_cases first one list is) [
  | inl same ↦ subst (λ b. Contains (f first ∷ map f list) b) (ap f same) (first_of (f first) (map f list))
  | inr later ↦ later_of (f first) (f one) (map f list) (mapped_member f one list later)
]

-- what a member of a list was made of
record IsMade {A B : Type 0} (f : A → B) (list : List A) (made : B) : Type 0 where
  one : A
  member : Contains list one
  same : f one ≡ made

made_of : {A B : Type 0} (f : A → B) (made : B) (list : List A) → Contains (map f list) made → IsMade f list made
made_of f made [] is = absurd (omega (arith, is.1))
made_of f made (first ∷ list) is = elim (member_cases (f first) made (map f list) is) [
  | inl same ↦ record { one = first; member = first_of first list; same = same }
  | inr later ↦ let behind = made_of f made list later in record { one = behind.one; member = later_of first behind.one list behind.member; same = behind.same }
]

-- ---- what is sorted and told once

before-map : {A : Type 0} (now : A → Passing) (first : A) (list : List A) → AllByRecursion (λ other. compare_passings (now first) (now other) ≡ Less) list →
    AllByRecursion (λ other. compare_passings (now first) other ≡ Less) (map now list)
before-map now first [] before = tt
before-map now first (other ∷ list) before = (before.0, before-map now first list before.1)

sorted-map : {A : Type 0} (now : A → Passing) (list : List A) → IsStrictlySortedBy (λ one other. compare_passings (now one) (now other)) list → IsStrictlySortedBy compare_passings (map now list)
unfolding IsStrictlySortedBy
sorted-map now [] sorted = sorted
sorted-map now (one ∷ list) sorted = (before-map now one list sorted.0, sorted-map now list sorted.1)

-- what a sort by the order asks
pub passings_rank : {A : Type 0} (now : A → Passing) → IsStrictWeakOrder (λ one other. is_lt (compare_passings (now one) (now other)))
passings_rank now = ranks_by passings_total now

module _ {A : Type 0} (now : A → Passing) (equal : A → A → Bool) (same_of : (one other : A) → equal one other ≡ true → now one ≡ now other) (equal_of : (one other : A) → now one ≡ now other → equal one other ≡ true) where
  order : A → A → Ordering
  order one other = compare_passings (now one) (now other)

  ties : (one other : A) → equal one other ≡ eq_by_cmp order one other
  unfolding order
  ties one other = one_truth (equal one other) (is_eq (compare_passings (now one) (now other)))
      (λ same. ap is_eq (ap (compare_passings (now one)) (sym (same_of one other same)) ∙ tied_itself passings_total (now one)))
      (λ tied. equal_of one other (same_passing (now one) (now other) (tied_from (compare_passings (now one) (now other)) tied)))

  kept_of : (sorted : List A) (one : A) → Contains sorted one → Contains (map now (dedup equal sorted)) (now one)
  unfolding order
  kept_of sorted one member =
      let total : IsTotalOrder order = on_total now passings_total in
      let alike : equal ≡ eq_by_cmp order = λ k x y. ties x y k in
      let kept = Any-dedup (subst IsEquivalence (sym alike) (eq_by_cmp_equiv total)) sorted one member in
      subst (Contains (map now (dedup equal sorted))) (sym (same_of one kept.1 kept.4)) (mapped_member now kept.1 (dedup equal sorted) (kept.0, kept.2, kept.3))

  pub told_once : (passed : List Passing) (list sorted told : List A) → map now list ≡ passed → IsPermutation list sorted → IsSorted (λ one other. compare_passings (now one) (now other)) sorted → told ≡ dedup equal sorted → ArePassings passed (map now told)
  unfolding order
  told_once passed list sorted told same moved rises once_each =
      subst (λ l. ArePassings l (map now told)) same (subst (λ l. ArePassings (map now list) (map now l)) (sym once_each) (record {
        in_order = sorted-map now (dedup equal sorted) (IsStrictlySortedBy-dedup (on_total now passings_total) ties sorted rises);
        each = λ k d inside.
            let made = made_of now _ (dedup equal sorted) (Contains-get_or (map now (dedup equal sorted)) k d inside) in
            let listed = Contains-permutation sorted list made.one (IsPermutation-sym list sorted moved) (Contains-from_dedup equal sorted made.one made.member) in
            subst (Contains (map now list)) made.same (mapped_member now made.one list listed);
        every = λ k d inside.
            let made = made_of now _ list (Contains-get_or (map now list) k d inside) in
            subst (Contains (map now (dedup equal sorted))) made.same (kept_of sorted made.one (Contains-permutation list sorted made.one moved made.member));
      }))

-- ---- there is one such list

below : (first one : Passing) (list : List Passing) → IsStrictlySortedBy compare_passings (first ∷ list) → Contains list one → compare_passings first one ≡ Less
below first one list sorted member =
    All-contains (λ other. compare_passings first other ≡ Less) list one (All-from_recursion _ list (sorted_head compare_passings first list sorted)) member

-- nothing comes before itself, and of two skipped paths one at most comes before the other
never_itself : (one other : Passing) → one ≡ other → compare_passings one other ≡ Less → ⊥
never_itself one other same less =
    let tied : compare_passings one other ≡ Equal = subst (λ p. compare_passings one p ≡ Equal) same (tied_itself passings_total one) in
    absurd (let wrong : Less ≡ Equal = sym less ∙ tied in cc)

never_both : (one other : Passing) → compare_passings one other ≡ Less → compare_passings other one ≡ Less → ⊥
never_both one other less more =
    absurd (let wrong : Less ≡ Greater = sym less ∙ passings_total.antisymm one other ∙ ap ordering_reverse more in cc)

same_first : (a b : Passing) (one other : List Passing) → IsStrictlySortedBy compare_passings (a ∷ one) → IsStrictlySortedBy compare_passings (b ∷ other) →
    Contains (b ∷ other) a → Contains (a ∷ one) b → a ≡ b
same_first a b one other sorted ordered has had = elim (member_cases b a other has) [
  | inl same ↦ sym same
  | inr later ↦ elim (member_cases a b one had) [
    | inl same ↦ same
    | inr behind ↦ absurd (never_both a b (below a b one sorted behind) (below b a other ordered later))
  ]
]

-- after a first one that both have, each has what the other has
later_too : (a b : Passing) (one other : List Passing) → a ≡ b → IsStrictlySortedBy compare_passings (a ∷ one) → ((p : Passing) → Contains (a ∷ one) p → Contains (b ∷ other) p) →
    (p : Passing) → Contains one p → Contains other p
later_too a b one other same sorted to p member = elim (member_cases b p other (to p (later_of a p one member))) [
  | inl first ↦ absurd (never_itself a p (same ∙ first) (below a p one sorted member))
  | inr later ↦ later
]

same_sorted : (one other : List Passing) → IsStrictlySortedBy compare_passings one → IsStrictlySortedBy compare_passings other →
    ((p : Passing) → Contains one p → Contains other p) → ((p : Passing) → Contains other p → Contains one p) → one ≡ other
same_sorted [] [] sorted ordered to from = refl
same_sorted [] (b ∷ other) sorted ordered to from = let none = from b (first_of b other) in absurd (omega (arith, none.1))
same_sorted (a ∷ one) [] sorted ordered to from = let none = to a (first_of a one) in absurd (omega (arith, none.1))
same_sorted (a ∷ one) (b ∷ other) sorted ordered to from =
    let first : a ≡ b = same_first a b one other sorted ordered (to a (first_of a one)) (from b (first_of b other)) in
    let rest : one ≡ other = same_sorted one other (sorted_tail compare_passings a one sorted) (sorted_tail compare_passings b other ordered)
    (later_too a b one other first sorted to) (later_too b a other one (sym first) ordered from) in
    λ k. first k ∷ rest k

pub same_order : (passed one other : List Passing) → ArePassings passed one → ArePassings passed other → one ≡ other
same_order passed one other are too =
    same_sorted one other are.in_order too.in_order
    (λ p member. All-contains (Contains other) passed p too.every (All-contains (Contains passed) one p are.each member))
    (λ p member. All-contains (Contains one) passed p are.every (All-contains (Contains passed) other p too.each member))

-- so there is one report
pub one_report : (rows : List Row) (passed ordered : List Passing) (shipped dropped : ℕ) (status : Status) (text other : List ℕ) →
    ArePassings passed ordered → text ≡ report_bytes rows ordered shipped dropped status → IsReport rows passed shipped dropped status other → other ≡ text
one_report rows passed ordered shipped dropped status text other are spelled is =
    is.spelled ∙ ap (λ l. report_bytes rows l shipped dropped status) (same_order passed is.ordered ordered is.passings are) ∙ sym spelled
