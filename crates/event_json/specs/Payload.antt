-- The payload of a value is its JSON text, if that is not too long for one (this project's profile).
use Rattle.std.specs.Prelude.{ℕ, nat_le, if◌then◌else◌, List, length, Option, Some, None}
use Rattle.wire_base.specs.declared.parcel.TheConstants.{MAX_PAYLOAD}
use Rattle.event_tree.specs.Value.{TreeValue}
use Rattle.event_json.specs.Envelope.{envelope_of}
use Rattle.event_json.specs.Json.{json_of}

abbrev pub within_bound : List ℕ → Option (List ℕ)
within_bound text = if nat_le (length text) MAX_PAYLOAD then Some text else None

unfoldable pub payload_of_value : TreeValue → Option (List ℕ)
payload_of_value v = within_bound (json_of v)

-- the payload of an event that no processor changes: of its path, the place at which its span starts, its message and
-- the moment at which it was closed
unfoldable pub payload_of_event : List ℕ → ℕ → List ℕ → ℕ → Option (List ℕ)
payload_of_event path offset message now = payload_of_value (envelope_of path offset message now)
