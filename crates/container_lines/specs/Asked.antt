-- The arguments of the program (this project's profile): exactly `--format F --stream S`, F being `cri` or `docker` and
-- S `all`, `stdout` or `stderr`.
use Rattle.std.specs.Prelude.{ℕ, ◌&&◌, List, [], ◌∷◌, codes, Option, Some, None, option_map, option_and_then, if◌then◌else◌}
use Rattle.std.specs.Str.{bytes_eq}
use Rattle.container_lines.specs.declared.format.Format.{Format}
use Rattle.container_lines.specs.declared.format.Format.TheVariants.{Cri, Docker}
use Rattle.container_lines.specs.declared.format.Keep.{Keep}
use Rattle.container_lines.specs.declared.format.Keep.TheVariants.{All, Only}
use Rattle.container_lines.specs.declared.words.Asked.{Asked}
use Rattle.container_lines.specs.Part.{stream_named}

abbrev pub format_named : List ℕ → Option Format
format_named name = if bytes_eq name (codes "cri") then Some Cri else (if bytes_eq name (codes "docker") then Some Docker else None)

abbrev pub keep_named : List ℕ → Option Keep
keep_named name = if bytes_eq name (codes "all") then Some All else option_map (λ stream. Only stream) (stream_named name)

abbrev pub asked : Format → Keep → Asked
asked format keep = record { format = format; keep = keep }

abbrev pub asked_by : List ℕ → List ℕ → List ℕ → List ℕ → Option Asked
asked_by first format second stream =
    if bytes_eq first (codes "--format") && bytes_eq second (codes "--stream") then option_and_then (λ named. option_map (λ keep. asked named keep) (keep_named stream)) (format_named format) else None

-- what the arguments ask for; none if they are not these
abbrev pub asked_of : List (List ℕ) → Option Asked
asked_of [] = None
asked_of (first ∷ []) = None
asked_of (first ∷ format ∷ []) = None
asked_of (first ∷ format ∷ second ∷ []) = None
asked_of (first ∷ format ∷ second ∷ stream ∷ []) = asked_by first format second stream
asked_of (first ∷ format ∷ second ∷ stream ∷ more ∷ words) = None
