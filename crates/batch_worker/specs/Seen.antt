-- What a worker's wire shows at one moment (this project's profile): the connections that failed and the links that were
-- finished, if they are known; how many links are not finished; and its counts.
use Rattle.std.specs.Prelude.{ℕ, List, Option, Some, None}
use Rattle.outside.specs.Counts.{next_count}
use Rattle.outside.specs.Wires.{Outcome}

pub record Seen : Type 0 where
  pub outcomes : Option (List Outcome)
  pub open_links : ℕ
  pub faults : ℕ
  pub idles : ℕ

abbrev pub seen : Option (List Outcome) → ℕ → ℕ → ℕ → Seen
seen outcomes open_links faults idles = record { outcomes = outcomes; open_links = open_links; faults = faults; idles = idles }

-- this many links of others, and the worker's own
abbrev pub with_link : {L : Type 0} → ℕ → Option L → ℕ
with_link others None = others
with_link others (Some link) = next_count others
