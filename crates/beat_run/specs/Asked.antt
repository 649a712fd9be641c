-- What the arguments and the settings ask for (this project's profile): that files are read once; or what is not built
-- yet, to go on at the end of the files, or what a key of the settings says.
use Rattle.std.specs.Prelude.{◌≡◌, ℕ, true, false, List, Option}
use Rattle.command_line.specs.Words.{IsCommand}
use Rattle.command_line.specs.declared.words.Words.{Words}
use Rattle.event_tree.specs.declared.settings.Settings.{Settings}
use Rattle.prospect.specs.Lacks.{IsFirstLack}
use Rattle.report.specs.declared.status.Lack.{Lack}
use Rattle.report.specs.declared.status.Lack.TheVariants.{Key, Follow}
use Rattle.beat_run.specs.Named.{IsNamed}

-- by what the arguments ask for
abbrev pub LacksFor : Words → Lack → Type 0
LacksFor asked Follow = asked.once ≡ false
LacksFor asked (Key key) = ⊥

-- the command takes the arguments, and they ask for it
pub record AskFor (words : List (List ℕ)) (lack : Lack) : Type 0 where
  pub asked : Words
  pub taken : IsCommand words asked
  pub lacks : LacksFor asked lack

-- the command takes the arguments, and they ask for files that are read once
pub record AskForOnce (words : List (List ℕ)) : Type 0 where
  pub asked : Words
  pub taken : IsCommand words asked
  pub once : asked.once ≡ true

-- the settings of the source ask for what is not built, by this key first
pub record AsksByKey (source : Option (List ℕ)) (key : List ℕ) : Type 0 where
  pub settings : Settings
  pub named : IsNamed source settings
  pub first : IsFirstLack settings key

-- the arguments or the settings ask for it
abbrev pub IsAsked : List (List ℕ) → Option (List ℕ) → Lack → Type 0
IsAsked words source Follow = AskFor words Follow
IsAsked words source (Key key) = AsksByKey source key
