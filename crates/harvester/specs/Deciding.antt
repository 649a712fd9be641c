-- The rules of an input once they are compiled: what they decide is the fate of an event (Filebeat reference, filestream
-- input and processors).
use Rattle.std.specs.Prelude.{◌≡◌, List, [], Option, Some, None}
use Rattle.event_tree.specs.declared.processor_rule.ProcessorRule.{ProcessorRule}
use Rattle.processors_core.specs.declared.chain.Chain.{Chain}
use Rattle.processors_core.specs.Runs.{Runs}
use Rattle.told_events.specs.Fate.{Fate, DroppedBy, ShippedAs}
use Rattle.told_events.specs.Rules.{Rules}
use Rattle.harvester.specs.declared.fate_rules.EventFate.{EventFate}
use Rattle.harvester.specs.declared.fate_rules.EventFate.TheVariants.{Shipped, Dropped}
use Rattle.harvester.specs.declared.fate_rules.FateRules.{FateRules}

abbrev pub shown : EventFate → Fate
shown (Shipped payload) = ShippedAs payload
shown (Dropped rule) = DroppedBy rule.0

-- without processors there is no chain
abbrev pub ChainRuns : List ProcessorRule → Option Chain → Type 0
ChainRuns processors None = processors ≡ []
ChainRuns processors (Some chain) = Runs processors chain

pub record Decides (rules : Rules) (compiled : FateRules) : Type 0 where
  pub include : compiled.filter.include ≡ rules.include
  pub exclude : compiled.filter.exclude ≡ rules.exclude
  pub chain : ChainRuns rules.processors compiled.chain
