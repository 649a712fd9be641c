-- What a joiner stands for (this project's profile): the format and the streams with which it was made, and of each
-- stream the partial lines that wait. It keeps their spans and their message, not their texts.
use Rattle.std.specs.Prelude.{◌≡◌, ℕ, ◌++◌, ◌-◌, List, [], ◌∷◌, length, take, Option, Some, None, if◌then◌else◌}
use Rattle.wire_base.specs.Extent.{Extent}
use Rattle.line_cutter.specs.declared.line.Line.{Line}
use Rattle.container_lines.specs.declared.format.Format.{Format}
use Rattle.container_lines.specs.declared.format.Keep.{Keep}
use Rattle.container_lines.specs.declared.format.Stream.{Stream}
use Rattle.container_lines.specs.declared.format.Stream.TheVariants.{Stdout, Stderr}
use Rattle.container_lines.specs.declared.limits.TheConstants.{MAX_MESSAGE}
use Rattle.container_lines.specs.declared.told.Joined.{Joined}
use Rattle.container_lines.specs.declared.told.Told.{Told}
use Rattle.container_lines.specs.declared.told.Told.TheVariants.{Whole, Waits, Other, Malformed}
use Rattle.container_lines.specs.Part.{Part, is_kept}
use Rattle.container_lines.specs.Parts.{Placed, stream_lines, waiting}
use Rattle.container_lines.specs.Joined.{spans_of, message_of}

-- what waits of a stream
pub record Waiting : Type 0 where
  pub parts : List Extent
  pub message : List ℕ

pub record Joining : Type 0 where
  pub format : Format
  pub keep : Keep
  pub stdout : Waiting
  pub stderr : Waiting

abbrev pub no_line : Waiting
no_line = record { parts = []; message = [] }

abbrev pub waiting_of : List Placed → Waiting
waiting_of lines = record { parts = spans_of lines; message = message_of lines }

-- what waits of a stream after these lines; nothing of a stream that is not kept
abbrev pub waits_of : Format → Keep → Stream → List Line → Waiting
waits_of format keep stream lines = if is_kept keep stream then waiting_of (waiting (stream_lines format stream lines)) else no_line

-- the joiner was made with this format and these streams, and was given these lines
pub record HasJoined (format : Format) (keep : Keep) (lines : List Line) (joiner : Joining) : Type 0 where
  pub same_format : joiner.format ≡ format
  pub same_keep : joiner.keep ≡ keep
  pub stdout : joiner.stdout ≡ waits_of format keep Stdout lines
  pub stderr : joiner.stderr ≡ waits_of format keep Stderr lines

-- what waits, with one more part
abbrev pub with_part : Waiting → Extent → List ℕ → Waiting
with_part waiting span text = record {
  parts = waiting.parts ++ span ∷ [];
  message = waiting.message ++ take (MAX_MESSAGE - length waiting.message) text;
}

abbrev pub waiting_in : Joining → Stream → Waiting
waiting_in joiner Stdout = joiner.stdout
waiting_in joiner Stderr = joiner.stderr

-- the joiner with something else waiting of a stream
abbrev pub with_waiting : Joining → Stream → Waiting → Joining
with_waiting joiner Stdout waiting = record joiner { stdout = waiting }
with_waiting joiner Stderr waiting = record joiner { stderr = waiting }

abbrev pub joined_waiting : Stream → Waiting → Joined
joined_waiting stream waiting = record { parts = waiting.parts; stream = stream; message = waiting.message }

-- what a joiner answers of a line of a stream that is kept
abbrev pub answer_kept : Waiting → Extent → Part → Told
answer_kept waiting span part =
    if part.partial then Waits else Whole (joined_waiting part.stream (with_part waiting span part.text))

-- what waits after it
abbrev pub behind_kept : Waiting → Extent → Part → Waiting
behind_kept waiting span part = if part.partial then with_part waiting span part.text else no_line

-- what a joiner answers of a line
abbrev pub answer_to : Joining → Extent → Option Part → Told
answer_to joiner span None = Malformed
answer_to joiner span (Some part) =
    if is_kept joiner.keep part.stream then answer_kept (waiting_in joiner part.stream) span part else Other

-- the joiner after it
abbrev pub behind_part : Joining → Extent → Option Part → Joining
behind_part joiner span None = joiner
behind_part joiner span (Some part) =
    if is_kept joiner.keep part.stream then with_waiting joiner part.stream (behind_kept (waiting_in joiner part.stream) span part) else joiner
