-- What the arguments ask for, and which are refused (this project's profile).
use Rattle.std.specs.Prelude.{◌≡◌, ◌≢◌, ◌↔◌, ◌⊎◌, ℕ, List, [], Option, Some, None, IsSomeAnd, IsTrue, codes}
use Rattle.std.specs.Prelude.{find, option_and_then}
use Rattle.std.specs.Str.{bytes_eq}
use Rattle.clap.specs.Faults.{fault_of}
use Rattle.clap.specs.Simple.{matches_of}
use Rattle.clap.specs.Walk.{Row, first_of}
use Rattle.clap.specs.declared.parser.matches.ValueSource.{ValueSource}
use Rattle.clap.specs.declared.parser.matches.ValueSource.TheVariants.{CommandLine}
use Rattle.command_line.specs.Command.{beat_command}
use Rattle.command_line.specs.LineCount.{IsLineCount}
use Rattle.command_line.specs.declared.words.Words.{Words}
use Rattle.wire_base.specs.Decimal.{value_of}

-- ---- what clap finds, a row for each argument

-- where the value of this argument comes from: the command line or its default
abbrev pub source_of : List ℕ → List Row → Option ValueSource
source_of id rows = option_and_then (λ row. row.source) (find (λ row. bytes_eq row.id id) rows)

-- the number that is asked for by the value of `--generate`, if there is one
abbrev pub IsGenerateBy : Option (List ℕ) → Option ℕ → Type 0
IsGenerateBy None asked = asked ≡ None
IsGenerateBy (Some digits) asked = IsLineCount digits × (asked ≡ Some (value_of digits))

pub record AsksFor (rows : List Row) (asked : Words) : Type 0 where
  pub settings : first_of (codes "config") rows ≡ Some asked.settings
  pub folder : first_of (codes "data") rows ≡ Some asked.«data»
  pub once : IsTrue asked.once ↔ (source_of (codes "once") rows ≡ Some CommandLine)
  pub generate : IsGenerateBy (first_of (codes "generate") rows) asked.generate

-- the value of `--generate` is no such number
abbrev pub HasNoCount : List Row → Type 0
HasNoCount rows = IsSomeAnd (first_of (codes "generate") rows) (λ digits. ¬ (IsLineCount digits))

-- ---- the command

-- the command takes the arguments, and they ask for this
abbrev pub IsCommand : List (List ℕ) → Words → Type 0
IsCommand words asked =
    (fault_of beat_command words ≡ []) × AsksFor (matches_of beat_command words) asked

-- the command refuses the arguments: clap finds a fault in them (one that the command does not know or
-- a request for help, one given twice or without its value, no `--config`), or the value of
-- `--generate` is no such number
abbrev pub IsNoCommand : List (List ℕ) → Type 0
IsNoCommand words =
    (fault_of beat_command words ≢ []) ⊎ HasNoCount (matches_of beat_command words)
