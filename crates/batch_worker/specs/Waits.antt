-- Since when a peer is silent (Filebeat reference, Logstash output, `timeout`; this project's profile): since the oldest
-- window in flight was out, or since the last byte that came, whichever was later.
use Rattle.std.specs.Prelude.{ℕ, max, List, [], ◌∷◌}
use Rattle.wire_base.specs.declared.numbers.Moment.{Moment}
use Rattle.batch_worker.specs.Working.{Working}

-- when the oldest of these windows was out; 0 if there is none
abbrev pub oldest_out : List Moment → ℕ
oldest_out [] = 0
oldest_out (out ∷ outs) = out.0

abbrev pub silent_since : {L : Type 0} → Working L → ℕ
silent_since w = max (oldest_out w.outs) w.heard.0
