-- Room for all parcels that a window may hold.
use Rattle.std.proofs.Common.{◌≡◌, ℕ, ◌+◌, ◌*◌, ◌<◌, ◌≤◌, List, [], ◌∷◌, ◌++◌, length, drop, Option, Some, None, mul-le-mul_left, refl, ap, arith}
use Rattle.std.specs.List.{AllByRecursion}
use Rattle.lumber_client.specs.Held.{IsPart, oldest_of, total}

-- no more are in flight than the windows in flight have room for
total_few : (most : ℕ) (counts : List ℕ) → AllByRecursion (λ count. (0 < count) × (count ≤ most)) counts → total counts ≤ most * length counts
total_few most [] each = omega arith
total_few most (count ∷ counts) each = omega (arith, each.0.1, total_few most counts each.1)

pub flights_few : (most depth : ℕ) (counts : List ℕ) → AllByRecursion (λ count. (0 < count) × (count ≤ most)) counts → length counts ≤ depth → total counts ≤ most * depth
flights_few most depth counts each few = omega (arith, total_few most counts each, mul-le-mul_left most few)

pub total_more : (counts : List ℕ) (count : ℕ) → total (counts ++ count ∷ []) ≡ total counts + count
total_more [] count = omega arith
total_more (first ∷ counts) count = omega (arith, total_more counts count)

pub each_more : (most : ℕ) (counts : List ℕ) (count : ℕ) → AllByRecursion (λ c. (0 < c) × (c ≤ most)) counts → 0 < count → count ≤ most → AllByRecursion (λ c. (0 < c) × (c ≤ most)) (counts ++ count ∷ [])
each_more most [] count each some few = ((some, few), tt)
each_more most (first ∷ counts) count each some few = (each.0, each_more most counts count each.1 some few)

pub part_more : (done : ℕ) (counts : List ℕ) (count : ℕ) → 0 < count → IsPart done counts → IsPart done (counts ++ count ∷ [])
part_more done [] count some part = omega (arith, part)
part_more done (first ∷ counts) count some part = part

-- nothing of the next one is acknowledged yet
pub part_next : (most : ℕ) (counts : List ℕ) → AllByRecursion (λ c. (0 < c) × (c ≤ most)) counts → IsPart 0 counts
part_next most [] each = refl
part_next most (count ∷ counts) each = each.0.0

abbrev value_or : ℕ → Option ℕ → ℕ
value_or other None = other
value_or other (Some value) = value

-- the oldest is the first
pub oldest_first : (flights : List ℕ) (count : ℕ) → oldest_of flights ≡ Some count → flights ≡ count ∷ drop 1 flights
oldest_first [] count is = absurd cc
oldest_first (first ∷ flights) count is = ap (λ (o : Option ℕ). value_or first o ∷ flights) is
