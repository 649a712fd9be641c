use Rattle.std.proofs.Common.{◌≡◌, ◌++◌, List, drop}
use Rattle.event_tree.specs.declared.processor_rule.ProcessorRule.{ProcessorRule}
use Rattle.toml.specs.View.{items_view}
use Rattle.beat_config.specs.Each.{each_findings, AreEach}
use Rattle.beat_config.specs.Finding.{seen_of, note_all}
use Rattle.beat_config.specs.Processors.{IsProcessor, processor_findings}
use Rattle.beat_config.proofs.noted.Noted.processor_items.Given as goal

abbrev pub invariant-loop-number : goal.invariant-loop-number
invariant-loop-number l = record {
  told : note_all (seen_of l.self) (each_findings processor_findings l.key l.number (items_view (drop l.number l.items)))
      ≡ note_all (seen_of l.fn.self) (each_findings processor_findings l.key 0 (items_view l.items));
  rules : (later : List ProcessorRule) → AreEach IsProcessor (items_view (drop l.number l.items)) later
      → AreEach IsProcessor (items_view l.items) (l.rules.items ++ later);
}
