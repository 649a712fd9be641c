-- A line of a Docker log (Docker's json-file driver; RFC 8259): one JSON object, as `serde_json` reads it, whose `log` and
-- `time` are texts and whose `stream` is `stdout` or `stderr`; it may have other keys. It is partial if `log` does not
-- end in a line feed; else that line feed is left out of its text.
use Rattle.std.specs.Prelude.{ℕ, ◌-◌, ◌==◌, Bool, not, List, length, take, slice_index, codes, Option, None, option_map, option_and_then, if◌then◌else◌}
use Rattle.std.specs.Str.{is_utf8}
use Rattle.serde_json.specs.Data.{Data}
use Rattle.serde_json.specs.Find.{get, as_str}
use Rattle.serde_json.specs.Read.{read}
use Rattle.container_lines.specs.declared.format.Stream.{Stream}
use Rattle.container_lines.specs.Part.{Part, part_with, stream_named}

-- the text that an object has under this key
abbrev pub text_at : List ℕ → Data → Option (List ℕ)
text_at key value = option_and_then as_str (get key value)

abbrev pub ends_in_feed : List ℕ → Bool
ends_in_feed text = slice_index text (length text - 1) == 10

abbrev pub without_feed : List ℕ → List ℕ
without_feed text = if ends_in_feed text then take (length text - 1) text else text

abbrev pub log_part : Stream → List ℕ → Part
log_part stream log = part_with stream (not (ends_in_feed log)) (without_feed log)

-- what an object says whose `log` is this text
abbrev pub logged_part : Data → List ℕ → Option Part
logged_part value log =
    option_and_then (λ stream. option_map (λ time. log_part stream log) (text_at (codes "time") value)) (option_and_then stream_named (text_at (codes "stream") value))

-- what an object says
abbrev pub object_part : Data → Option Part
object_part value = option_and_then (logged_part value) (text_at (codes "log") value)

-- the value that a content is; none if it is no JSON text
unfoldable pub value_of : List ℕ → Option Data
value_of content = if is_utf8 content then read content else None

abbrev pub docker_part : List ℕ → Option Part
docker_part content = option_and_then object_part (value_of content)
