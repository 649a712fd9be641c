-- The rule that a grouper's parts stand for (Filebeat reference, multiline).
use Rattle.std.specs.Prelude.{◌≡◌, ℕ}
use Rattle.event_tree.specs.declared.group_rule.GroupRule.{GroupRule}
use Rattle.event_tree.specs.declared.group_rule.GroupRule.TheVariants.{Single, Count, Pattern}
use Rattle.line_cutter.specs.declared.line.Line.{Line}
use Rattle.multiline_core.specs.declared.step.Step.{Step}
use Rattle.multiline_core.specs.declared.step.Step.TheVariants.{Last}
use Rattle.multiline_core.specs.Message.{limit_of, max_lines_of, skips_newline}
use Rattle.multiline_core.specs.Rule.{timeout_of}
use Rattle.multiline_core.specs.Step.{count_step, pattern_step}
use Rattle.multiline_core.specs.declared.kind.Kind.{Kind}
use Rattle.multiline_core.specs.declared.kind.Kind.TheVariants as kind
use Rattle.multiline_core.specs.declared.kind.Limits.{Limits}

abbrev pub rule_of : Kind → Limits → GroupRule
rule_of kind.Single limits = Single limits.message_max_bytes
rule_of (kind.Count count_lines) limits =
    Count count_lines limits.max_lines limits.timeout limits.skip_newline limits.message_max_bytes
rule_of (kind.Pattern pattern negate side flush) limits =
    Pattern pattern negate side flush limits.max_lines limits.timeout limits.skip_newline limits.message_max_bytes

abbrev pub kind_of : GroupRule → Kind
kind_of (Single message_max_bytes) = kind.Single
kind_of (Count count_lines max_lines timeout skip_newline message_max_bytes) = kind.Count count_lines
kind_of (Pattern pattern negate side flush max_lines timeout skip_newline message_max_bytes) =
    kind.Pattern pattern negate side flush

abbrev pub limits_of : GroupRule → Limits
limits_of rule = record {
  max_lines = max_lines_of rule;
  timeout = timeout_of rule;
  skip_newline = skips_newline rule;
  message_max_bytes = limit_of rule;
}

-- what a line does, by the parts
abbrev pub kind_step : Kind → ℕ → Line → Step
kind_step kind.Single waiting line = Last
kind_step (kind.Count count_lines) waiting line = count_step waiting count_lines
kind_step (kind.Pattern pattern negate side flush) waiting line = pattern_step pattern negate side flush waiting line

-- the limits are the rule's
abbrev pub AreLimitsOf : GroupRule → Limits → Type 0
AreLimitsOf rule limits =
    (limits.max_lines ≡ max_lines_of rule) × (limits.timeout ≡ timeout_of rule) × (limits.skip_newline ≡ skips_newline rule)
    × (limits.message_max_bytes ≡ limit_of rule)
