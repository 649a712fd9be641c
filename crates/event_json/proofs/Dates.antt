-- The date of a day is the one that `jiff` gives.
use Rattle.std.proofs.Common.{◌≡◌, ℕ, zero, suc, ◌+◌, ◌-◌, ◌<◌, ◌≤◌, true, false, nat_lt, List, [], ◌∷◌, refl, ap, ◌∙◌, subst, arith, ℤ, pos, negsuc, ◌<ℤ◌, ◌≢◌, inl, inr}
use Rattle.std.proofs.lemmas.Bool.{cases_lt, cond-true, cond-false}
use Rattle.std.proofs.lemmas.Bool.Decides.{nat_tests}
use Rattle.jiff_core.specs.declared.civil.date.Date.{Date as CivilDate}
use Rattle.jiff_core.specs.Calendar.{day_count, day_of_year, days_of_months, days_in_month, days_in_year, IsCivilDate, IsYear}
use Rattle.jiff_core.specs.Date.{epoch_day}
use Rattle.jiff_core.proofs.SignedLemmas.{signed_arith}
use Rattle.jiff_core.proofs.CalendarLemmas.{days_from_civil-day_count, day_count-epoch, days_of_months-zero, days_of_months_more, days_of_months_mono, day_of_year_bound, day_count-day_of_year, day_count-next_year, day_count-lt_year, day_count-year_is}
use Rattle.jiff_core.proofs.DateLemmas.{civil}
use Rattle.event_json.specs.Moment.{Within, Date, year_at, year_days, month_at, month_days, date_of}

abbrev within : ℕ → ℕ → Within
within number over = record { number = number; over = over }

-- the walk goes on, or stops here
year_here : (years year days : ℕ) → days < year_days year → year_at (suc years) year days ≡ within year days
year_here years year days here =
    let test : nat_lt days (year_days year) ≡ true = grind (arith, nat_tests) in rw (test, year_at) refl

year_on : (years year days : ℕ) → year_days year ≤ days → year_at (suc years) year days ≡ year_at years (year + 1) (days - year_days year)
year_on years year days on =
    let test : nat_lt days (year_days year) ≡ false = grind (arith, nat_tests) in rw (test, year_at) refl

at_year : (year found days : ℕ) (m d : ℕ) → year ≡ found → 1 ≤ d → day_count (pos year) 1 1 + days ≡ day_count (pos found) m d
    → within year days ≡ within found (day_of_year (pos found) m d - 1)
at_year year found days m d same low count =
    let first : day_count (pos year) 1 1 ≡ day_count (pos found) 1 1 = ap (λ y. day_count (pos y) 1 1) same in
    let over : days ≡ day_of_year (pos found) m d - 1 = omega (arith, day_count-day_of_year (pos found) m d low) in
    λ i. within (same i) (over i)

pub year_found : (years year days found m d : ℕ) → IsCivilDate (pos found) m d → year ≤ found → found ≤ year + years
    → day_count (pos year) 1 1 + days ≡ day_count (pos found) m d
    → year_at years year days ≡ within found (day_of_year (pos found) m d - 1)
year_found zero year days found m d is low high count = at_year year found days m d (omega arith) is.2.0 count
year_found (suc years) year days found m d is low high count =
    let next : day_count (pos (year + 1)) 1 1 ≡ day_count (pos year) 1 1 + year_days year = day_count-next_year (pos year) (pos (year + 1)) (omega (arith, signed_arith)) (omega (arith, signed_arith)) in
    elim (cases_lt days (year_days year)) [
      | inl here ↦
          let its : IsYear (pos year) = omega (arith, signed_arith, is.0.0, is.0.1) in
          let same : pos found ≡ pos year = day_count-year_is (pos year) (pos found) m d its is (omega arith) (omega arith) in
          year_here years year days here ∙ at_year year found days m d (omega (arith, signed_arith)) is.2.0 count
      | inr on ↦
          let later : year ≢ found = λ same.
          let first : day_count (pos year) 1 1 ≡ day_count (pos found) 1 1 = ap (λ y. day_count (pos y) 1 1) same in
          let length : year_days year ≡ days_in_year (pos found) = ap year_days same in
          omega (arith, day_count-day_of_year (pos found) m d is.2.0, day_of_year_bound (pos found) m d is) in
          year_on years year days on ∙ year_found years (year + 1) (days - year_days year) found m d is (omega arith) (omega arith) (omega arith)
    ]

-- the months from one on, this many of them
months_from : ℤ → ℕ → ℕ → List ℕ
months_from year month zero = []
months_from year month (suc months) = days_in_month year month ∷ months_from year (month + 1) months

all_months : (year : ℕ) → month_days year ≡ months_from (pos year) 1 12
unfolding months_from
all_months year = refl

month_found : (year : ℤ) (months month days m d : ℕ) → 1 ≤ month → month ≤ m → m < month + months → 1 ≤ d → d ≤ days_in_month year m
    → days_of_months year (month - 1) + days + 1 ≡ day_of_year year m d
    → month_at (months_from year month months) month days ≡ within m (d - 1)
unfolding months_from
month_found year zero month days m d first low high begin end count = absurd (omega arith)
month_found year (suc months) month days m d first low high begin end count =
    let more = days_of_months_more year month first in
    elim (cases_lt days (days_in_month year month)) [
      | inl here ↦
          let same : month ≡ m = elim (cases_lt month m) [
            | inl before ↦ absurd (omega (arith, days_of_months_mono year month (m - 1) (omega arith)))
            | inr not_before ↦ omega arith
          ] in
          let over : days ≡ d - 1 = omega (arith, ap (λ k. days_of_months year (k - 1)) same) in
          let test : nat_lt days (days_in_month year month) ≡ true = grind (arith, nat_tests) in
          cond-true _ _ _ test ∙ (λ i. within (same i) (over i))
      | inr on ↦
          let later : month ≢ m = λ same. omega (arith, ap (λ k. days_of_months year (k - 1)) same, ap (λ k. days_in_month year k) same) in
          let next : days_of_months year (month + 1 - 1) ≡ days_of_months year month = ap (days_of_months year) (omega arith) in
          let test : nat_lt days (days_in_month year month) ≡ false = grind (arith, nat_tests) in
          cond-false _ _ _ test ∙ month_found year months (month + 1) (days - days_in_month year month) m d (omega arith) (omega arith) (omega arith) begin end (omega arith)
    ]

-- the date within a year
abbrev date_in : Within → Date
date_in year = let month = month_at (month_days year.number) 1 year.over in record { year = year.number; month = month.number; day = month.over + 1 }

abbrev date_by : ℕ → Within → Date
date_by year month = record { year = year; month = month.number; day = month.over + 1 }

abbrev pub date : ℕ → ℕ → ℕ → Date
date year month day = record { year = year; month = month; day = day }

date_found : (day year : ℕ) (m d : ℕ) → IsCivilDate (pos year) m d → 1970 ≤ year → day_count (pos 1970) 1 1 + day ≡ day_count (pos year) m d → date_of day ≡ date year m d
unfolding date_of
date_found day year m d is low count =
    let found = year_found 8030 1970 day year m d is low (omega (arith, signed_arith, is.0.0, is.0.1)) count in
    let over = day_of_year (pos year) m d - 1 in
    let month = ap (λ lengths. month_at lengths 1 over) (all_months year)
    ∙ month_found (pos year) 12 1 over m d (omega arith) is.1.0 (omega (arith, is.1.1)) is.2.0 is.2.1 (omega (arith, days_of_months-zero (pos year), is.2.0)) in
    let same : d - 1 + 1 ≡ d = omega (arith, is.2.0) in
    ap date_in found ∙ ap (date_by year) month ∙ ap (date year m) same

-- the date that `jiff` has for a day
pub record Found (day : ℕ) (given : CivilDate) : Type 0 where
  pub year : ℕ
  pub year_is : given.year ≡ pos year
  pub same : date_of day ≡ date year given.month given.day

before_1970 : (day : ℕ) (given : CivilDate) → epoch_day given ≡ pos day → given.year <ℤ pos 1970 → ⊥
before_1970 day given e before =
    omega (arith, signed_arith, days_from_civil-day_count given.year given.month given.day, day_count-epoch, day_count-lt_year given.year given.month given.day (pos 1970) 1 1 (civil given) (omega arith) before)

found_at : (day : ℕ) (given : CivilDate) (year : ℤ) → epoch_day given ≡ pos day → given.year ≡ year → Found day given
found_at day given (negsuc n) e is = absurd (before_1970 day given e (omega (arith, signed_arith)))
found_at day given (pos year) e is =
    elim (cases_lt year 1970) [
      | inl early ↦ absurd (before_1970 day given e (omega (arith, signed_arith)))
      | inr low ↦
          let count : day_count (pos 1970) 1 1 + day ≡ day_count given.year given.month given.day = omega (arith, signed_arith, days_from_civil-day_count given.year given.month given.day, day_count-epoch) in
          record {
            year = year;
            year_is = is;
            same = date_found day year given.month given.day (subst (λ y. IsCivilDate y given.month given.day) is (civil given)) low (count ∙ ap (λ y. day_count y given.month given.day) is);
          }
    ]

pub found : (day : ℕ) (given : CivilDate) → epoch_day given ≡ pos day → Found day given
found day given e = found_at day given given.year e refl
