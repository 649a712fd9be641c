-- What is known of the levels that a pass over bytes keeps.
use Rattle.std.proofs.Common.{◌≡◌, ℕ, ◌+◌, ◌<◌, ◌≤◌, ◌≢◌, zero, suc, List, ◌∷◌, length, sum, get_or, set, refl, ap, subst, sym, ◌∙◌, arith, get_or-set_other, get_or-set_same}
use Rattle.std.proofs.lemmas.List.Sums.{sum_by-cons}
use Rattle.beat_config.specs.Nesting.{last_first, IsCounted}
use Rattle.beat_config.specs.declared.nesting.Levels.{Levels}

pub last_first_count : (count : ℕ) (numbers : List ℕ) → length (last_first count numbers) ≡ count
last_first_count zero numbers = refl
last_first_count (suc count) numbers = ap suc (last_first_count count numbers)

-- a number that is written after those that are listed changes nothing
pub last_first_other : (count place value : ℕ) (numbers : List ℕ) → count ≤ place → last_first count (set numbers place value) ≡ last_first count numbers
last_first_other zero place value numbers few = refl
last_first_other (suc count) place value numbers few =
    let other : count ≢ place = omega arith in
    let rest = last_first_other count place value numbers (omega arith) in
    ap (λ number. number ∷ last_first count (set numbers place value)) (get_or-set_other numbers place count value 0 other)
    ∙ ap (λ tail. get_or numbers count 0 ∷ tail) rest

-- a number that is written right after them comes first
pub last_first_more : (count value : ℕ) (numbers : List ℕ) → count < length numbers → last_first (count + 1) (set numbers count value) ≡ value ∷ last_first count numbers
last_first_more count value numbers within =
    let more : suc count ≡ count + 1 = omega arith in
    let HasMore : ℕ → Type 0 = λ most. last_first most (set numbers count value) ≡ value ∷ last_first count numbers in
    subst HasMore more
    (ap (λ number. number ∷ last_first count (set numbers count value)) (get_or-set_same numbers count value 0 within)
    ∙ ap (λ tail. value ∷ tail) (last_first_other count count value numbers (omega arith)))

-- each open bracket is a level
pub few_brackets : (levels : Levels) → IsCounted levels → levels.brackets ≤ levels.count
few_brackets levels counted =
    let outer = last_first levels.brackets levels.outer in
    let counts : levels.count ≡ levels.dots + sum outer + length outer = counted in
    let many : length outer ≡ levels.brackets = last_first_count levels.brackets levels.outer in
    omega (arith, counts, many)

-- one more bracket is counted
pub counted_opening : (count dots brackets : ℕ) (numbers : List ℕ) → brackets < length numbers
    → count ≡ dots + sum (last_first brackets numbers) + length (last_first brackets numbers)
    → count + 1 ≡ 0 + sum (last_first (brackets + 1) (set numbers brackets dots)) + length (last_first (brackets + 1) (set numbers brackets dots))
counted_opening count dots brackets numbers within counted =
    let outer = last_first brackets numbers in
    let IsCount : List ℕ → Type 0 = λ listed. count + 1 ≡ 0 + sum listed + length listed in
    let total : sum (dots ∷ outer) ≡ dots + sum outer = sum_by-cons (λ number. number) dots outer in
    let long : length (dots ∷ outer) ≡ length outer + 1 = omega arith in
    let more : count + 1 ≡ 0 + sum (dots ∷ outer) + length (dots ∷ outer) = omega (arith, counted, total, long) in
    subst IsCount (sym (last_first_more brackets dots numbers within)) more
