-- The container's own lines (Kubernetes' CRI log format; Docker's json-file driver): for each stream that is kept, a
-- longest row of partial lines of that stream together with the stream's next line, which is not partial. The message
-- is the first 16,777,216 bytes of their texts joined (this project's profile).
use Rattle.std.specs.Prelude.{ℕ, ◌++◌, List, [], ◌∷◌, map, take, Option, Some, None, if◌then◌else◌}
use Rattle.std.specs.List.{flat_map}
use Rattle.wire_base.specs.Extent.{Extent}
use Rattle.event_tree.specs.declared.line_rule.LineRule.{LineRule}
use Rattle.event_tree.specs.declared.line_rule.Terminator.TheVariants.{LineFeed}
use Rattle.line_cutter.specs.declared.line.Line.{Line}
use Rattle.line_cutter.specs.Lines.{complete_lines}
use Rattle.container_lines.specs.declared.format.Format.{Format}
use Rattle.container_lines.specs.declared.format.Keep.{Keep}
use Rattle.container_lines.specs.declared.format.Stream.{Stream}
use Rattle.container_lines.specs.declared.limits.TheConstants.{MAX_CONTENT, MAX_MESSAGE}
use Rattle.container_lines.specs.declared.told.Joined.{Joined}
use Rattle.container_lines.specs.declared.told.Told.{Told}
use Rattle.container_lines.specs.declared.told.Told.TheVariants.{Whole, Waits, Other, Malformed}
use Rattle.container_lines.specs.Part.{Part, is_kept, is_same}
use Rattle.container_lines.specs.Parts.{Placed, placed, part_of, stream_lines, waiting}

abbrev pub spans_of : List Placed → List Extent
spans_of lines = map (λ line. line.span) lines

-- the first bytes of the texts joined, as many as a message may have
abbrev pub message_of : List Placed → List ℕ
message_of lines = take MAX_MESSAGE (flat_map (λ line. line.part.text) lines)

-- lines of a stream as one
abbrev pub joined_of : Stream → List Placed → Joined
joined_of stream lines = record { parts = spans_of lines; stream = stream; message = message_of lines }

-- what a part of a stream that is kept is reported as, by the lines before it
abbrev pub told_kept : Format → List Line → Extent → Part → Told
told_kept format before span part =
    if part.partial then Waits else Whole (joined_of part.stream (waiting (stream_lines format part.stream before) ++ placed span part ∷ []))

abbrev pub told_part : Format → Keep → List Line → Extent → Option Part → Told
told_part format keep before span None = Malformed
told_part format keep before span (Some part) = if is_kept keep part.stream then told_kept format before span part else Other

-- what a line is reported as, by the lines before it
abbrev pub told_of : Format → Keep → List Line → Line → Told
told_of format keep before line = told_part format keep before line.span (part_of format line)

abbrev pub joined_in : Told → List Joined
joined_in (Whole joined) = joined ∷ []
joined_in Waits = []
joined_in Other = []
joined_in Malformed = []

-- the joined lines whose last parts are among `lines`, which come after `before`, in the order of their last parts
abbrev pub joined_behind : Format → Keep → List Line → List Line → List Joined
joined_behind format keep before [] = []
joined_behind format keep before (line ∷ lines) =
    joined_in (told_of format keep before line) ++ joined_behind format keep (before ++ line ∷ []) lines

abbrev pub joined_lines : Format → Keep → List Line → List Joined
joined_lines format keep lines = joined_behind format keep [] lines

-- messages, each with a line feed after it
abbrev pub spelled : List Joined → List ℕ
spelled lines = flat_map (λ joined. joined.message ++ 10 ∷ []) lines

abbrev pub container_rule : LineRule
container_rule = record { terminator = LineFeed; message_max_bytes = MAX_CONTENT }

-- the complete lines of a log
abbrev pub log_lines : List ℕ → List Line
log_lines bytes = complete_lines container_rule 0 bytes

-- the container's own lines as the bytes of a log have them
abbrev pub plain : Format → Keep → List ℕ → List ℕ
plain format keep bytes = spelled (joined_lines format keep (log_lines bytes))

-- the parts of the joined lines of a stream
abbrev pub parts_of : Stream → List Joined → List Extent
parts_of stream [] = []
parts_of stream (joined ∷ lines) = (if is_same stream joined.stream then joined.parts else []) ++ parts_of stream lines
