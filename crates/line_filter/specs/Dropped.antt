-- The rule that a verdict names (this project's profile).
use Rattle.std.specs.Prelude.{ℕ, Option, Some, None}
use Rattle.line_filter.specs.declared.verdict.Verdict.{Verdict}
use Rattle.line_filter.specs.declared.verdict.Verdict.TheVariants.{Keep, Drop}

-- its number, if the message is dropped
abbrev pub dropped_by : Verdict → Option ℕ
dropped_by Keep = None
dropped_by (Drop rule) = Some rule.0
