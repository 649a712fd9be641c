-- Where events go, and the queue and the lanes (Filebeat reference, Logstash output and internal queue; the keys, ranges
-- and defaults are this project's profile).
use Rattle.std.specs.Prelude.{ℕ, List, [], ◌∷◌, ◌++◌, codes, Option}
use Rattle.event_tree.specs.declared.output_rule.OutputRule.{OutputRule}
use Rattle.toml.specs.Data.{Data, Members, get_member}
use Rattle.beat_config.specs.declared.settings_error.SettingsError.{SettingsError}
use Rattle.beat_config.specs.Host.{hosts_of, hosts_findings}
use Rattle.beat_config.specs.Path.{key_path}
use Rattle.beat_config.specs.Single.{limits, whole_of, whole_findings, duration_of, duration_findings}
use Rattle.beat_config.specs.Table.{members_at, table_at_findings}

unfoldable pub output_in : Members → OutputRule
output_in members = record {
  hosts = hosts_of (get_member (codes "hosts") members);
  workers = whole_of (limits 1 16) 1 (get_member (codes "workers") members);
  bulk_max_size = whole_of (limits 1 65536) 2048 (get_member (codes "bulk_max_size") members);
  pipelining = whole_of (limits 1 8) 2 (get_member (codes "pipelining") members);
  timeout = duration_of (limits 1 3600000) 30000 (get_member (codes "timeout") members);
  attempts = whole_of (limits 1 1000) 3 (get_member (codes "attempts") members);
}

abbrev pub output_of : Option Data → OutputRule
output_of found = output_in (members_at found)

abbrev pub output_keys : List (List ℕ)
output_keys =
    codes "hosts" ∷ codes "workers" ∷ codes "bulk_max_size" ∷ codes "pipelining" ∷ codes "timeout" ∷ codes "attempts" ∷ []

unfoldable pub output_value_findings : List ℕ → Members → List SettingsError
output_value_findings path members =
    hosts_findings (limits 1 16) (key_path path (codes "hosts")) (get_member (codes "hosts") members)
    ++ (whole_findings (limits 1 16) (key_path path (codes "workers")) (get_member (codes "workers") members)
    ++ (whole_findings (limits 1 65536) (key_path path (codes "bulk_max_size")) (get_member (codes "bulk_max_size") members)
    ++ (whole_findings (limits 1 8) (key_path path (codes "pipelining")) (get_member (codes "pipelining") members)
    ++ (duration_findings (limits 1 3600000) (key_path path (codes "timeout")) (get_member (codes "timeout") members)
    ++ whole_findings (limits 1 1000) (key_path path (codes "attempts")) (get_member (codes "attempts") members)))))

abbrev pub output_findings : List ℕ → Option Data → List SettingsError
output_findings path found =
    table_at_findings path output_keys (codes "hosts" ∷ []) found ++ output_value_findings path (members_at found)

-- how many events the queue holds
abbrev pub events_of : Option Data → ℕ
events_of found = whole_of (limits 32 65536) 3200 (get_member (codes "events") (members_at found))

abbrev pub queue_findings : List ℕ → Option Data → List SettingsError
queue_findings path found =
    table_at_findings path (codes "events" ∷ []) [] found
    ++ whole_findings (limits 32 65536) (key_path path (codes "events")) (get_member (codes "events") (members_at found))

-- how many lanes read files
abbrev pub lanes_of : Option Data → ℕ
lanes_of found = whole_of (limits 1 8) 2 (get_member (codes "lanes") (members_at found))

abbrev pub harvest_findings : List ℕ → Option Data → List SettingsError
harvest_findings path found =
    table_at_findings path (codes "lanes" ∷ []) [] found
    ++ whole_findings (limits 1 8) (key_path path (codes "lanes")) (get_member (codes "lanes") (members_at found))
