-- The files of a run, lane by lane and left, in the order of their slots.
use Rattle.std.proofs.Common.{◌≡◌, ◌⊎◌, inl, inr, ℕ, ◌+◌, List, [], ◌∷◌, ◌++◌, Contains, map, refl, ap, subst, ◌∙◌, arith}
use Rattle.std.proofs.lemmas.List.{map-append}
use Rattle.std.specs.List.{AllByRecursion}
use Rattle.accounts.specs.Opened.{Opened}
use Rattle.accounts.specs.Turned.{Turned}
use Rattle.accounts.proofs.Often.{often_contains, often_counted}
use Rattle.pass_sums.specs.Weight.{AsOften, weigh}
use Rattle.pass_sums.proofs.Weights.{weigh-append}
use Rattle.ship_core.proofs.Members.{first_there, none_there, there_cases}
use Rattle.wire_base.specs.declared.numbers.Slot.{Slot}
use Rattle.accounts.proofs.Joining.{same_slot, tells_slots}

-- ---- one of them by its slot

abbrev slots_of : List Turned → List Slot
slots_of files = map (λ (turned : Turned). turned.slot) files

abbrev slots_in : List Opened → List Slot
slots_in opened = map (λ (one : Opened). one.begin.slot) opened

-- the one of this slot, and those before and behind it
record Parted (files : List Turned) (slot : Slot) : Type 0 where
  front : List Turned
  one : Turned
  back : List Turned
  are : files ≡ front ++ one ∷ back
  slot_is : one.slot ≡ slot

part_at : (files : List Turned) (slot : Slot) → Contains (slots_of files) slot → Parted files slot
part_at [] slot there = absurd (none_there slot there)
part_at (first ∷ files) slot there = by_case (there_cases first.slot slot (slots_of files) there) (part_at files slot)
  where
    by_case : (first.slot ≡ slot) ⊎ Contains (slots_of files) slot → (Contains (slots_of files) slot → Parted files slot) → Parted (first ∷ files) slot
    by_case (inl same) behind = record { front = []; one = first; back = files; are = refl; slot_is = same }
    by_case (inr later) behind =
        let of = behind later in
        record { front = first ∷ of.front; one = of.one; back = of.back; are = ap (λ (l : List Turned). first ∷ l) of.are; slot_is = of.slot_is }

without : (P : Turned → Type 0) (front : List Turned) (one : Turned) (back : List Turned) → AllByRecursion P (front ++ one ∷ back) → P one × AllByRecursion P (front ++ back)
without P [] one back each = each
without P (first ∷ front) one back each = let rest = without P front one back each.1 in (rest.0, (each.0, rest.1))

-- ---- all of them

-- the same files in this order, and what is said of each
pub record Arranged (P : Turned → Type 0) (files : List Turned) (slots : List Slot) : Type 0 where
  pub turned : List Turned
  pub slots_are : slots_of turned ≡ slots
  pub same : AsOften files turned
  pub each : AllByRecursion P turned

module _ (P : Turned → Type 0) (slot : Slot) (slots : List Slot) (files : List Turned) (often : AsOften (slots_of files) (slot ∷ slots)) (each : AllByRecursion P files) (of : Parted files slot) where
  rest : AsOften (slots_of (of.front ++ of.back)) slots
  rest h = omega (
    arith,
    often h,
    ap (λ (l : List Turned). weigh h (slots_of l)) of.are,
    ap (weigh h) (map-append (λ (t : Turned). t.slot) of.front (of.one ∷ of.back)),
    weigh-append h (slots_of of.front) (slots_of (of.one ∷ of.back)),
    ap (weigh h) (map-append (λ (t : Turned). t.slot) of.front of.back),
    weigh-append h (slots_of of.front) (slots_of of.back),
    ap h of.slot_is,
  )

  parts : P of.one × AllByRecursion P (of.front ++ of.back)
  parts = without P of.front of.one of.back (subst (λ (l : List Turned). AllByRecursion P l) of.are each)

  with_one : Arranged P (of.front ++ of.back) slots → Arranged P files (slot ∷ slots)
  with_one others = record {
    turned = of.one ∷ others.turned;
    slots_are = (λ k. of.slot_is k ∷ others.slots_are k);
    same = λ h. ap (weigh h) of.are ∙ together h;
    each = (parts.0, others.each);
  }
    where
      together : (h : Turned → ℕ) → weigh h (of.front ++ of.one ∷ of.back) ≡ h of.one + weigh h others.turned
      together h = omega (arith, weigh-append h of.front (of.one ∷ of.back), weigh-append h of.front of.back, others.same h)

pub arranged : (P : Turned → Type 0) (slots : List Slot) (files : List Turned) → AsOften (slots_of files) slots → AllByRecursion P files → Arranged P files slots
arranged P [] [] often each = record { turned = []; slots_are = refl; same = λ h. refl; each = tt }
arranged P [] (first ∷ files) often each = absurd (let long = often_counted (slots_of (first ∷ files)) [] often in omega (arith, long))
arranged P (slot ∷ slots) files often each =
    let of = part_at files slot (often_contains same_slot tells_slots (slots_of files) (slot ∷ slots) slot often (first_there slot slots)) in
    with_one P slot slots files often each of (arranged P slots (of.front ++ of.back) (rest P slot slots files often each of) (parts P slot slots files often each of).1)
