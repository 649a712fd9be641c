-- What becomes of an event (Filebeat reference, filestream input and processors; the rules' numbers are this project's
-- profile): it is dropped by the first rule that applies, or shipped as its payload. Rules 0 to 2 ask its message. Rule
-- 10 and one more for each processor before it is a `drop_event`. Rule 3 drops a payload that is too long.
use Rattle.std.specs.Prelude.{ℕ, ◌+◌, List, Option, Some, None}
use Rattle.event_json.specs.Envelope.{envelope_of}
use Rattle.event_json.specs.Payload.{payload_of_value}
use Rattle.line_filter.specs.Verdict.{verdict_of}
use Rattle.processors_core.specs.Outcome.{Outcome, Dropped, Left, outcome_of}
use Rattle.wire_base.specs.declared.note.Cause.{Cause}
use Rattle.wire_base.specs.declared.note.Cause.TheVariants as cause
use Rattle.told_events.specs.Rules.{Rules}

pub data Fate : Type 0 where
  DroppedBy : ℕ → Fate
  ShippedAs : List ℕ → Fate

abbrev pub fate_of_payload : Option (List ℕ) → Fate
fate_of_payload None = DroppedBy 3
fate_of_payload (Some payload) = ShippedAs payload

abbrev pub fate_of_outcome : Outcome → Fate
fate_of_outcome (Dropped processor) = DroppedBy (10 + processor)
fate_of_outcome (Left tree) = fate_of_payload (payload_of_value tree)

-- by the rule that drops its message, or else by what comes later
abbrev pub fate_of_verdict : Option ℕ → Fate → Fate
fate_of_verdict (Some rule) later = DroppedBy rule
fate_of_verdict None later = later

-- of the event that begins at this place of the file of the path, has this message, and was closed at this moment
unfoldable pub fate_of : Rules → List ℕ → ℕ → List ℕ → ℕ → Fate
fate_of rules path start message now =
    fate_of_verdict (verdict_of rules.include rules.exclude message)
    (fate_of_outcome (outcome_of rules.processors (envelope_of path start message now)))

-- what is sent of it
abbrev pub payload_of_fate : Fate → Option (List ℕ)
payload_of_fate (DroppedBy rule) = None
payload_of_fate (ShippedAs payload) = Some payload

-- why it is settled, once it is
abbrev pub cause_of_fate : Fate → Cause
cause_of_fate (DroppedBy rule) = cause.Dropped (record { 0 = rule })
cause_of_fate (ShippedAs payload) = cause.Acked
