-- The tree of an event before any processor (Filebeat reference, event fields; the timestamp is this project's profile).
use Rattle.std.specs.Prelude.{ℕ, ℤ, pos, List, [], ◌∷◌, codes}
use Rattle.event_tree.specs.Value.{TreeValue, int, str}
use Rattle.event_tree.specs.Paths.{map_of}
use Rattle.event_json.specs.Moment.{moment_text}
use Rattle.event_json.specs.Replaced.{text_of}

-- `input.type`
abbrev pub input_fields : TreeValue
input_fields = map_of ((codes "type", str (codes "filestream")) ∷ [])

-- `log.file.path` and `log.offset`
abbrev pub log_fields : List ℕ → ℤ → TreeValue
log_fields path offset =
    map_of ((codes "file", map_of ((codes "path", str path) ∷ [])) ∷ (codes "offset", int offset) ∷ [])

-- `@timestamp`, `input`, `log` and `message`, and no other field
abbrev pub event_fields : List ℕ → List ℕ → ℤ → List ℕ → TreeValue
event_fields timestamp path offset message =
    map_of ((codes "@timestamp", str timestamp) ∷ (codes "input", input_fields) ∷ (codes "log", log_fields path offset) ∷ (codes "message", str message) ∷ [])

-- of the path, the place at which the event's span starts, the bytes of the message and the moment at which the event
-- was closed
abbrev pub envelope_of : List ℕ → ℕ → List ℕ → ℕ → TreeValue
envelope_of path offset message now = event_fields (moment_text now) path (pos offset) (text_of message)
