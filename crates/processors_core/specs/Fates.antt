-- What a fate says: the tree that is left, or the rule that drops the event.
use Rattle.event_tree.specs.Tree.{value_of}
use Rattle.processors_core.specs.Outcome.{Outcome, Dropped, Left}
use Rattle.processors_core.specs.declared.fate.Fate.{Fate}
use Rattle.processors_core.specs.declared.fate.Fate.TheVariants as fate

abbrev pub shown : Fate → Outcome
shown (fate.Ship tree) = Left (value_of tree)
shown (fate.Dropped rule) = Dropped rule.0
