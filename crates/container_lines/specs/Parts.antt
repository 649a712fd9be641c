-- The parts that the lines of a container log are (Kubernetes' CRI log format; Docker's json-file driver). A content of
-- more than 16,777,216 bytes is of no format (this project's profile).
use Rattle.std.specs.Prelude.{ℕ, ◌++◌, Bool, true, false, nat_le, List, [], ◌∷◌, Option, Some, None, if◌then◌else◌}
use Rattle.wire_base.specs.Extent.{Extent}
use Rattle.line_cutter.specs.declared.line.Line.{Line}
use Rattle.container_lines.specs.declared.format.Format.{Format}
use Rattle.container_lines.specs.declared.format.Format.TheVariants.{Cri, Docker}
use Rattle.container_lines.specs.declared.format.Stream.{Stream}
use Rattle.container_lines.specs.declared.limits.TheConstants.{MAX_CONTENT}
use Rattle.container_lines.specs.Part.{Part, is_same}
use Rattle.container_lines.specs.Cri.{cri_part}
use Rattle.container_lines.specs.Docker.{docker_part}

abbrev pub part_in : Format → List ℕ → Option Part
part_in Cri content = cri_part content
part_in Docker content = docker_part content

-- what a line says; none if it is of no format
unfoldable pub part_of : Format → Line → Option Part
part_of format line = if nat_le line.full MAX_CONTENT then part_in format line.head else None

-- a line of the format, with its place
pub record Placed : Type 0 where
  pub span : Extent
  pub part : Part

abbrev pub placed : Extent → Part → Placed
placed span part = record { span = span; part = part }

-- the line, if it is of the format and of this stream
abbrev pub of_stream : Stream → Extent → Option Part → List Placed
of_stream stream span None = []
of_stream stream span (Some part) = if is_same stream part.stream then placed span part ∷ [] else []

-- the lines of a stream, in their order
abbrev pub stream_lines : Format → Stream → List Line → List Placed
stream_lines format stream [] = []
stream_lines format stream (line ∷ lines) = of_stream stream line.span (part_of format line) ++ stream_lines format stream lines

abbrev pub are_partial : List Placed → Bool
are_partial [] = true
are_partial (line ∷ lines) = if line.part.partial then are_partial lines else false

-- the partial lines after the last line that is not partial
abbrev pub waiting : List Placed → List Placed
waiting [] = []
waiting (line ∷ lines) = if are_partial (line ∷ lines) then line ∷ lines else waiting lines
