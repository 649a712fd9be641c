-- A log of which some bytes were read (this project's profile): its lines were handed out, given to the joiner and counted
-- if they are of no format; what the joined lines spell is in the sink or waits to be written.
use Rattle.std.specs.Prelude.{◌≡◌, ℕ, ◌++◌, List, [], ◌∷◌, Option}
use Rattle.line_cutter.specs.declared.line.Line.{Line}
use Rattle.line_cutter.specs.Cutting.{HasCut}
use Rattle.container_lines.specs.declared.conversion.Conversion.{Conversion}
use Rattle.container_lines.specs.declared.words.Asked.{Asked}
use Rattle.container_lines.specs.Bad.{bad_found}
use Rattle.container_lines.specs.Joined.{joined_lines, spelled, container_rule, log_lines}
use Rattle.container_lines.specs.Joining.{HasJoined}
use Rattle.container_lines.specs.Output.{StandsOrWaits}

-- what a log is read into: what is asked, and what the sink held before
pub record Aim : Type 0 where
  pub asked : Asked
  pub before : Option (List ℕ)

-- what was read of a log: its bytes, the lines that were handed out, and those that were given to the joiner
pub record Progress : Type 0 where
  pub fed : List ℕ
  pub given : List Line
  pub told : List Line

-- what the first lines of a log spell
abbrev pub text_of : Aim → List Line → List ℕ
text_of aim lines = spelled (joined_lines aim.asked.format aim.asked.keep lines)

pub record Converts (aim : Aim) (progress : Progress) (written : Option (List ℕ)) (log : Conversion) : Type 0 where
  pub cut : HasCut container_rule 0 progress.fed progress.given log.cutter
  pub joined : HasJoined aim.asked.format aim.asked.keep progress.told log.joiner
  pub bad : log.bad ≡ bad_found aim.asked.format progress.told
  pub output : StandsOrWaits aim.before (text_of aim progress.told) written log.output.items

-- the same of this many lines, all of which were given to the joiner
abbrev pub ConvertsLines : Aim → List ℕ → List Line → Option (List ℕ) → Conversion → Type 0
ConvertsLines aim fed lines written log = Converts aim (record { fed = fed; given = lines; told = lines }) written log

-- the same of all complete lines of the bytes
abbrev pub ConvertsAll : Aim → List ℕ → Option (List ℕ) → Conversion → Type 0
ConvertsAll aim fed written log = ConvertsLines aim fed (log_lines fed) written log

-- the line was handed out after these lines, which were given to the joiner, and it was not given yet
abbrev pub IsHanded : Aim → List ℕ → List Line → Line → Option (List ℕ) → Conversion → Type 0
IsHanded aim fed lines line written log = Converts aim (record { fed = fed; given = lines ++ line ∷ []; told = lines }) written log
