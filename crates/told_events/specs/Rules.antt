-- The rules of an input as one record (Filebeat reference, filestream input, multiline messages, processors): what ends a
-- line, which lines are one event, which messages are dropped before anything else, and what processors make of an event.
use Rattle.std.specs.Prelude.{ℕ, List}
use Rattle.event_tree.specs.declared.group_rule.GroupRule.{GroupRule}
use Rattle.event_tree.specs.declared.input_rule.InputRule.{InputRule}
use Rattle.event_tree.specs.declared.line_rule.LineRule.{LineRule}
use Rattle.event_tree.specs.declared.processor_rule.ProcessorRule.{ProcessorRule}

pub record Rules : Type 0 where
  pub lines : LineRule
  pub events : GroupRule
  pub include : List (List ℕ)
  pub exclude : List (List ℕ)
  pub processors : List ProcessorRule

-- an input has its own rules, and the processors of all
abbrev pub rules_of : InputRule → List ProcessorRule → Rules
rules_of input processors = record {
  lines = input.lines;
  events = input.multiline;
  include = input.include_lines;
  exclude = input.exclude_lines;
  processors = processors;
}
