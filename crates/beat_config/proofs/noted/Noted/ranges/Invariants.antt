use Rattle.std.proofs.Common.{◌≡◌, ◌++◌}
use Rattle.toml.specs.View.{members_view}
use Rattle.beat_config.specs.Finding.{seen_of, note_all}
use Rattle.beat_config.specs.Pairs.{bounds_in, ranges_findings}
use Rattle.beat_config.proofs.noted.Noted.ranges.Given as goal

abbrev pub invariant-loop-name : goal.invariant-loop-name
invariant-loop-name l = record {
  told : note_all (seen_of l.self) (ranges_findings l.key (members_view l.name-iterator))
      ≡ note_all (seen_of l.fn.self) (ranges_findings l.key (members_view l.table.entries));
  value : l.ranges.items ++ bounds_in (members_view l.name-iterator) ≡ bounds_in (members_view l.table.entries);
}
