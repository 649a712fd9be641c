-- What a worker wants of the settings of its output (Filebeat reference, Logstash output; this project's profile): a host,
-- and windows of at least one event, of which at least one may be in flight.
use Rattle.std.specs.Prelude.{◌<◌, length}
use Rattle.event_tree.specs.declared.output_rule.OutputRule.{OutputRule}

pub record IsWorkable (rule : OutputRule) : Type 0 where
  pub some_host : 0 < length rule.hosts
  pub some_event : 0 < rule.bulk_max_size
  pub some_window : 0 < rule.pipelining
