use Rattle.std.proofs.Common.{◌≡◌, ◌++◌, drop}
use Rattle.toml.specs.View.{items_view}
use Rattle.beat_config.specs.Finding.{seen_of, note_all}
use Rattle.beat_config.specs.Host.{hosts_in, host_member_findings}
use Rattle.beat_config.proofs.noted.Noted.host_items.Given as goal

abbrev pub invariant-loop-number : goal.invariant-loop-number
invariant-loop-number l = record {
  told : note_all (seen_of l.self) (host_member_findings l.key l.number (items_view (drop l.number l.items)))
      ≡ note_all (seen_of l.fn.self) (host_member_findings l.key 0 (items_view l.items));
  hosts : l.hosts.items ++ hosts_in (items_view (drop l.number l.items)) ≡ hosts_in (items_view l.items);
}
