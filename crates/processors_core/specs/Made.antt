-- The rules that a processor does whose paths are read and whose patterns are compiled (Filebeat reference, processors).
use Rattle.std.specs.Prelude.{◌≡◌, ℕ, Option, Some, None}
use Rattle.event_tree.specs.Value.{TreeValue}
use Rattle.event_tree.specs.declared.condition_rule.ConditionRule.{ConditionRule}
use Rattle.event_tree.specs.declared.processor_rule.ProcessorRule.{ProcessorRule}
use Rattle.event_tree.specs.declared.processor_rule.ProcessorRule.TheVariants as rule
use Rattle.conditions.specs.Asks.{Asks}
use Rattle.conditions.specs.declared.condition.Condition.{Condition}
use Rattle.processors_core.specs.Actions.{dropped_by, added_by, tagged_by, renamed_by}
use Rattle.processors_core.specs.Added.{fields_added}
use Rattle.processors_core.specs.Dropped.{fields_dropped}
use Rattle.processors_core.specs.Error.{settled}
use Rattle.processors_core.specs.Outcome.{Outcome, Dropped, Left}
use Rattle.processors_core.specs.Renamed.{pairs_renamed}
use Rattle.processors_core.specs.Tagged.{tags_added}
use Rattle.processors_core.specs.declared.processor.Action.{Action}
use Rattle.processors_core.specs.declared.processor.Action.TheVariants as action
use Rattle.processors_core.specs.declared.processor.Processor.{Processor}

-- ---- what is done if the condition holds

abbrev pub acted : Action → TreeValue → Outcome
acted (action.DropEvent number) tree = Dropped number.0
acted (action.DropFields drops) tree = Left (settled tree (dropped_by drops tree))
acted (action.AddFields added) tree = Left (settled tree (added_by added tree))
acted (action.AddTags tagged) tree = Left (settled tree (tagged_by tagged tree))
acted (action.Rename renames) tree = Left (settled tree (renamed_by renames tree))

-- the same of a rule of the settings, which drops by the rule of this number
abbrev pub rule_acted : ℕ → ProcessorRule → TreeValue → Outcome
rule_acted number (rule.DropEvent when) tree = Dropped number
rule_acted number (rule.DropFields paths ignore_missing when) tree = Left (settled tree (fields_dropped ignore_missing paths tree))
rule_acted number (rule.AddFields pairs target when) tree = Left (settled tree (fields_added pairs target tree))
rule_acted number (rule.AddTags tags target when) tree = Left (settled tree (tags_added tags target tree))
rule_acted number (rule.Rename pairs ignore_missing fail_on_error when) tree =
    Left (settled tree (pairs_renamed ignore_missing fail_on_error pairs tree))

-- ---- the condition

abbrev pub when_of : ProcessorRule → Option ConditionRule
when_of (rule.DropEvent when) = Some when
when_of (rule.DropFields paths ignore_missing when) = when
when_of (rule.AddFields pairs target when) = when
when_of (rule.AddTags tags target when) = when
when_of (rule.Rename pairs ignore_missing fail_on_error when) = when

abbrev pub AsksWhen : Option ConditionRule → Option Condition → Type 0
AsksWhen None None = Unit {0}
AsksWhen None (Some condition) = ⊥
AsksWhen (Some asked) None = ⊥
AsksWhen (Some asked) (Some condition) = Asks asked condition

-- ---- both

pub record Does (number : ℕ) (done : ProcessorRule) (processor : Processor) : Type 0 where
  pub when : AsksWhen (when_of done) processor.when
  pub acts : (tree : TreeValue) → acted processor.action tree ≡ rule_acted number done tree
