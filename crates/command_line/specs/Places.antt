-- Where the program finds and keeps what it works on, and its defaults (this project's profile).
use Rattle.std.specs.Prelude.{◌≡◌, ◌⊎◌, ◌++◌, ℕ, List, Option, None, false, codes}
use Rattle.command_line.specs.Words.{IsCommand, IsNoCommand}
use Rattle.command_line.specs.declared.words.Words.{Words}

abbrev pub defaults : Words
defaults = record {
  settings = codes "beat.toml";
  «data» = codes "data";
  once = false;
  generate = None;
}

-- what the arguments ask for, or the defaults if the command refuses them
abbrev pub IsAskedOrDefault : List (List ℕ) → Words → Type 0
IsAskedOrDefault words asked = IsCommand words asked ⊎ (IsNoCommand words × (asked ≡ defaults))

abbrev pub IsSettingsPlace : List (List ℕ) → List ℕ → Type 0
IsSettingsPlace words place =
    (asked : Words) × IsAskedOrDefault words asked × (place ≡ asked.settings)

-- a file of the data folder, by its name with the slash before it
abbrev pub IsInData : List (List ℕ) → List ℕ → List ℕ → Type 0
IsInData words name place =
    (asked : Words) × IsAskedOrDefault words asked × (place ≡ asked.«data» ++ name)

abbrev pub IsGenerated : List (List ℕ) → Option ℕ → Type 0
IsGenerated words lines =
    (asked : Words) × IsAskedOrDefault words asked × (lines ≡ asked.generate)
