-- What processors make of an event's tree, one after another (Filebeat reference, processors): the first
-- `drop_event` whose condition holds of the tree, as the processors before it left it, drops the event. Each other
-- processor runs if it has no condition, or if that holds.
use Rattle.std.specs.Prelude.{◌≡◌, ℕ, ◌+◌, Bool, true, List, [], ◌∷◌, ◌++◌, length, Option, Some, None, if◌then◌else◌}
use Rattle.event_tree.specs.Value.{TreeValue}
use Rattle.event_tree.specs.declared.condition_rule.ConditionRule.{ConditionRule}
use Rattle.event_tree.specs.declared.processor_rule.ProcessorRule.{ProcessorRule}
use Rattle.event_tree.specs.declared.processor_rule.ProcessorRule.TheVariants.{DropEvent, DropFields, AddFields, AddTags, Rename}
use Rattle.conditions.specs.Holds.{holds}
use Rattle.processors_core.specs.Added.{fields_added}
use Rattle.processors_core.specs.Attempt.{Attempt}
use Rattle.processors_core.specs.Dropped.{fields_dropped}
use Rattle.processors_core.specs.Error.{settled}
use Rattle.processors_core.specs.Renamed.{pairs_renamed}
use Rattle.processors_core.specs.Tagged.{tags_added}

pub data Outcome : Type 0 where
  -- by the processor of this number, counted from 0
  Dropped : ℕ → Outcome
  Left : TreeValue → Outcome

abbrev pub runs_on : Option ConditionRule → TreeValue → Bool
runs_on None tree = true
runs_on (Some when) tree = holds when tree

abbrev pub run_where : Option ConditionRule → Attempt → TreeValue → TreeValue
run_where when attempt tree = if runs_on when tree then settled tree attempt else tree

-- the tree after one processor; none if it drops the event
unfoldable pub after_one : ProcessorRule → TreeValue → Option TreeValue
after_one (DropEvent when) tree = if holds when tree then None else Some tree
after_one (DropFields paths ignore_missing when) tree = Some (run_where when (fields_dropped ignore_missing paths tree) tree)
after_one (AddFields pairs target when) tree = Some (run_where when (fields_added pairs target tree) tree)
after_one (AddTags tags target when) tree = Some (run_where when (tags_added tags target tree) tree)
after_one (Rename pairs ignore_missing fail_on_error when) tree =
    Some (run_where when (pairs_renamed ignore_missing fail_on_error pairs tree) tree)

abbrev pub going_on : ℕ → Option TreeValue → (TreeValue → Outcome) → Outcome
going_on number None next = Dropped number
going_on number (Some tree) next = next tree

-- by processors of which the first has this number
abbrev pub outcome_from : ℕ → List ProcessorRule → TreeValue → Outcome
outcome_from number [] tree = Left tree
outcome_from number (rule ∷ rules) tree = going_on number (after_one rule tree) (λ after. outcome_from (number + 1) rules after)

abbrev pub outcome_of : List ProcessorRule → TreeValue → Outcome
outcome_of rules tree = outcome_from 0 rules tree

-- the processor of this number is a `drop_event`, no processor before it drops the event, and its condition holds of
-- the tree that they left
pub record IsFirstDrop (rules : List ProcessorRule) (tree : TreeValue) (number : ℕ) : Type 0 where
  pub front : List ProcessorRule
  pub when : ConditionRule
  pub behind : List ProcessorRule
  pub left : TreeValue
  pub rules_are : rules ≡ front ++ DropEvent when ∷ behind
  pub number_is : length front ≡ number
  pub before : outcome_of front tree ≡ Left left
  pub condition_holds : holds when left ≡ true
