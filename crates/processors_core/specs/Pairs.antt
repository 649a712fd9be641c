-- The pair of settings that a pair of read paths is (Filebeat reference, processors, `rename`).
use Rattle.event_tree.specs.declared.processor_rule.Pair.{Pair}
use Rattle.processors_core.specs.declared.rename.NamedPair.{NamedPair}

abbrev pub pair_of : NamedPair → Pair
pair_of pair = record { from = pair.from; to = pair.to }
