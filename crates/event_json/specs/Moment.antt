-- The text of a moment (RFC 3339, in UTC with three places of a fraction). The calendar is the Gregorian one.
use Rattle.std.specs.Prelude.{ℕ, zero, suc, ◌+◌, ◌-◌, ◌/◌, ◌%◌, Bool, true, false, not, ◌&&◌, ◌||◌, ◌==◌, nat_lt, if◌then◌else◌, List, [], ◌∷◌, ◌++◌, codes}

-- every fourth year, but of the centuries only every fourth
abbrev pub is_leap : ℕ → Bool
is_leap year = (year % 4 == 0) && (not (year % 100 == 0) || (year % 400 == 0))

abbrev pub year_days : ℕ → ℕ
year_days year = if is_leap year then 366 else 365

-- the days of each month, from January on
abbrev pub month_days : ℕ → List ℕ
month_days year = 31 ∷ (if is_leap year then 29 else 28) ∷ 31 ∷ 30 ∷ 31 ∷ 30 ∷ 31 ∷ 31 ∷ 30 ∷ 31 ∷ 30 ∷ 31 ∷ []

-- a year or a month with the days of it that are over
pub record Within : Type 0 where
  pub number : ℕ
  pub over : ℕ

-- the year in which a day lies that comes `days` after the first of the given year; it is one of the next `years`
abbrev pub year_at : ℕ → ℕ → ℕ → Within
year_at zero year days = record { number = year; over = days }
year_at (suc years) year days = elim (nat_lt days (year_days year)) [
  | true ↦ record { number = year; over = days }
  | false ↦ year_at years (year + 1) (days - year_days year)
]

-- the month in which such a day lies, among months of these lengths
abbrev pub month_at : List ℕ → ℕ → ℕ → Within
month_at [] month days = record { number = month; over = days }
month_at (length ∷ lengths) month days = if nat_lt days length then record { number = month; over = days } else month_at lengths (month + 1) (days - length)

pub record Date : Type 0 where
  pub year : ℕ
  pub month : ℕ
  pub day : ℕ

-- the date this many days after 1970-01-01, up to the year 9999
unfoldable pub date_of : ℕ → Date
date_of days =
    let year = year_at 8030 1970 days in
    let month = month_at (month_days year.number) 1 year.over in
    record { year = year.number; month = month.number; day = month.over + 1 }

-- a number in two, three or four digits
abbrev pub two_digits : ℕ → List ℕ
two_digits n = (48 + n / 10) ∷ (48 + n % 10) ∷ []

abbrev pub three_digits : ℕ → List ℕ
three_digits n = (48 + n / 100) ∷ two_digits (n % 100)

abbrev pub four_digits : ℕ → List ℕ
four_digits n = two_digits (n / 100) ++ two_digits (n % 100)

-- `YYYY-MM-DD`
abbrev pub date_text : Date → List ℕ
date_text date = four_digits date.year ++ (codes "-" ++ (two_digits date.month ++ (codes "-" ++ two_digits date.day)))

-- `hh:mm:ss.mmm` of the milliseconds since midnight
abbrev pub time_text : ℕ → List ℕ
time_text ms = two_digits (ms / 3_600_000) ++ (codes ":" ++ (two_digits (ms / 60_000 % 60) ++ (codes ":" ++ (two_digits (ms / 1_000 % 60) ++ (codes "." ++ three_digits (ms % 1_000))))))

-- the moment this many milliseconds after 1970-01-01T00:00:00.000Z
unfoldable pub moment_text : ℕ → List ℕ
moment_text ms = date_text (date_of (ms / 86_400_000)) ++ (codes "T" ++ (time_text (ms % 86_400_000) ++ codes "Z"))
