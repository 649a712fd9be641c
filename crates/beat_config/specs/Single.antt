-- A value that is by itself at a key: the value that it gives, which is the default if the key is absent or its value
-- has a fault, and its fault (this project's profile).
use Rattle.std.specs.Prelude.{ℕ, ℤ, pos, negsuc, ◌&&◌, nat_le, Bool, List, [], ◌∷◌, Option, Some, None, if◌then◌else◌, is_some, unwrap_or, option_and_then}
use Rattle.std.specs.List.{position_from}
use Rattle.std.specs.Str.{bytes_eq}
use Rattle.toml.specs.Data.{Data, as_bool, as_integer, as_str}
use Rattle.beat_config.specs.declared.settings_error.SettingsError.{SettingsError}
use Rattle.beat_config.specs.declared.settings_error.SettingsError.TheVariants.{WrongKind, BadText, OutOfRange}
use Rattle.beat_config.specs.declared.single.Limits.{Limits}
use Rattle.beat_config.specs.Duration.{milliseconds}

-- a truth value
abbrev pub flag_of : Bool → Option Data → Bool
flag_of default found = unwrap_or (option_and_then as_bool found) default

abbrev pub flag_findings : List ℕ → Option Data → List SettingsError
flag_findings key None = []
flag_findings key (Some value) = if is_some (as_bool value) then [] else WrongKind key ∷ []

-- the least and the greatest number that is taken
abbrev pub limits : ℕ → ℕ → Limits
limits low high = record { low = low; high = high }

-- a number within limits
abbrev pub number_in : Limits → ℤ → Option ℕ
number_in range (pos number) = if nat_le range.low number && nat_le number range.high then Some number else None
number_in range (negsuc number) = None

abbrev pub range_findings : Limits → List ℕ → ℤ → List SettingsError
range_findings range key number = if is_some (number_in range number) then [] else OutOfRange key number ∷ []

-- a whole number
abbrev pub whole_of : Limits → ℕ → Option Data → ℕ
whole_of range default found = unwrap_or (option_and_then (number_in range) (option_and_then as_integer found)) default

abbrev pub integer_findings : Limits → List ℕ → Option ℤ → List SettingsError
integer_findings range key None = WrongKind key ∷ []
integer_findings range key (Some number) = range_findings range key number

abbrev pub whole_findings : Limits → List ℕ → Option Data → List SettingsError
whole_findings range key None = []
whole_findings range key (Some value) = integer_findings range key (as_integer value)

-- a duration, in milliseconds
abbrev pub duration_in : Limits → List ℕ → Option ℕ
duration_in range text = option_and_then (λ number. number_in range (pos number)) (milliseconds text)

abbrev pub duration_of : Limits → ℕ → Option Data → ℕ
duration_of range default found = unwrap_or (option_and_then (duration_in range) (option_and_then as_str found)) default

abbrev pub length_findings : Limits → List ℕ → Option ℕ → List SettingsError
length_findings range key None = BadText key ∷ []
length_findings range key (Some number) = range_findings range key (pos number)

abbrev pub time_findings : Limits → List ℕ → Option (List ℕ) → List SettingsError
time_findings range key None = WrongKind key ∷ []
time_findings range key (Some text) = length_findings range key (milliseconds text)

abbrev pub duration_findings : Limits → List ℕ → Option Data → List SettingsError
duration_findings range key None = []
duration_findings range key (Some value) = time_findings range key (as_str value)

-- one of some names, as its place among them
abbrev pub name_place : List (List ℕ) → List ℕ → Option ℕ
name_place names text = position_from (λ name. bytes_eq name text) 0 names

abbrev pub choice_of : List (List ℕ) → ℕ → Option Data → ℕ
choice_of names default found = unwrap_or (option_and_then (name_place names) (option_and_then as_str found)) default

abbrev pub name_findings : List (List ℕ) → List ℕ → Option (List ℕ) → List SettingsError
name_findings names key None = WrongKind key ∷ []
name_findings names key (Some text) = if is_some (name_place names text) then [] else BadText key ∷ []

abbrev pub choice_findings : List (List ℕ) → List ℕ → Option Data → List SettingsError
choice_findings names key None = []
choice_findings names key (Some value) = name_findings names key (as_str value)
