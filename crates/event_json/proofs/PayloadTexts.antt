-- What `serde_json` writes of a value is its payload, where it is not too long.
use Rattle.std.proofs.Common.{◌≡◌, ℕ, pos, List, [], Some, ap, ◌∙◌}
use Rattle.serde.specs.Event.{Log}
use Rattle.serde_json.specs.Events.{SendsValue}
use Rattle.serde_json.specs.Sent.{IsTextOf}
use Rattle.serde_json.proofs.FreeTexts.{text_of_value}
use Rattle.event_tree.specs.Value.{TreeValue}
use Rattle.event_json.specs.Data.{data_of}
use Rattle.event_json.specs.Envelope.{event_fields}
use Rattle.event_json.specs.Json.{json_of}
use Rattle.event_json.specs.Moment.{moment_text}
use Rattle.event_json.specs.Payload.{within_bound, payload_of_value, payload_of_event}
use Rattle.event_json.specs.Replaced.{text_of}
use Rattle.event_json.proofs.JsonTexts.{value_text, value_whole}

pub payload_written : (v : TreeValue) (text : List ℕ) → (log : Log) × SendsValue (data_of v) (Some []) log × IsTextOf log text → within_bound text ≡ payload_of_value v
unfolding payload_of_value
payload_written v text sent =
    let same : text ≡ json_of v = text_of_value (data_of v) sent.0 text sent.1 sent.2 (value_whole v) ∙ value_text v in
    ap within_bound same

-- the payload of an event whose message is this text
pub event_payload_is : (path : List ℕ) (offset : ℕ) (message : List ℕ) (now : ℕ) (text : List ℕ) → text ≡ text_of message
    → payload_of_value (event_fields (moment_text now) path (pos offset) text) ≡ payload_of_event path offset message now
unfolding payload_of_event
event_payload_is path offset message now text replaced =
    ap (λ t. payload_of_value (event_fields (moment_text now) path (pos offset) t)) replaced
