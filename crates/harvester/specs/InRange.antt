-- The rules of an input that a harvester can follow (Filebeat reference, filestream input; the ranges are this project's
-- profile).
use Rattle.std.specs.Prelude.{All}
use Rattle.event_tree.specs.declared.input_rule.InputRule.{InputRule}
use Rattle.file_identity.specs.Answers.{IsAskable}
use Rattle.line_cutter.specs.Lines.{IsMessageLimit}
use Rattle.multiline_core.specs.Rule.{IsGroupRule}
use Rattle.patterns.specs.Pattern.{IsLinePattern}

pub record IsReadable (rule : InputRule) : Type 0 where
  pub limit : IsMessageLimit rule.lines.message_max_bytes
  pub groups : IsGroupRule rule.multiline
  pub include : All IsLinePattern rule.include_lines
  pub exclude : All IsLinePattern rule.exclude_lines
  pub identity : IsAskable rule.file_identity
