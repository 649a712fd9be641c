-- Which of the faults of a document comes first: the kinds in the order of the table, within one kind the key path that is
-- first in byte order, and of one key the fault that is found first (this project's profile).
use Rattle.std.specs.Prelude.{◌≡◌, ℕ, Bool, true, false, List, [], ◌∷◌, ◌++◌, fold, Option, Some, None, if◌then◌else◌}
use Rattle.std.specs.List.{AllByRecursion}
use Rattle.std.specs.Ordering.{nat_cmp, is_lt, ordering_then}
use Rattle.std.specs.declared.cmp.Ordering.{Ordering}
use Rattle.std.specs.Cmp.Lexicographic.{slice_cmp}
use Rattle.beat_config.specs.declared.settings_error.SettingsError.{SettingsError}
use Rattle.beat_config.specs.declared.settings_error.SettingsError.TheVariants.{TooLong, NotToml, Unknown, Missing, WrongKind, BadText, OutOfRange, BadGlob, BadPattern, CleanTooSoon, NoMemory}
use Rattle.beat_config.specs.declared.noted.Noted.{Noted}

-- the place of the kind in the table
abbrev pub rank : SettingsError → ℕ
rank TooLong = 0
rank NotToml = 1
rank (Unknown key) = 2
rank (Missing key) = 3
rank (WrongKind key) = 4
rank (BadText key) = 5
rank (OutOfRange key value) = 6
rank (BadGlob key fault) = 7
rank (BadPattern key) = 8
rank (CleanTooSoon key) = 9
rank NoMemory = 10

abbrev pub key_of : SettingsError → List ℕ
key_of TooLong = []
key_of NotToml = []
key_of (Unknown key) = key
key_of (Missing key) = key
key_of (WrongKind key) = key
key_of (BadText key) = key
key_of (OutOfRange key value) = key
key_of (BadGlob key fault) = key
key_of (BadPattern key) = key
key_of (CleanTooSoon key) = key
key_of NoMemory = []

-- by the kind, and then by the key
abbrev pub order : SettingsError → SettingsError → Ordering
order fault other = ordering_then (nat_cmp (rank fault) (rank other)) (slice_cmp nat_cmp (key_of fault) (key_of other))

abbrev pub comes_before : SettingsError → SettingsError → Bool
comes_before fault other = is_lt (order fault other)

-- the first of some faults: no other comes before it, and those found before it come after it
pub record IsFirst (faults : List SettingsError) (fault : SettingsError) : Type 0 where
  pub earlier : List SettingsError
  pub later : List SettingsError
  pub among : faults ≡ earlier ++ fault ∷ later
  pub before_earlier : AllByRecursion (λ other. comes_before fault other ≡ true) earlier
  pub before_later : AllByRecursion (λ other. comes_before other fault ≡ false) later

-- the first fault that was found so far
unfoldable pub seen_of : Noted → Option SettingsError
seen_of noted = noted.first

-- a fault takes the place of one that it comes before
abbrev pub earlier_of : Option SettingsError → SettingsError → SettingsError
earlier_of None fault = fault
earlier_of (Some first) fault = if comes_before fault first then fault else first

unfoldable pub note : Option SettingsError → SettingsError → Option SettingsError
note first fault = Some (earlier_of first fault)

unfoldable pub note_all : Option SettingsError → List SettingsError → Option SettingsError
note_all first faults = fold note first faults
