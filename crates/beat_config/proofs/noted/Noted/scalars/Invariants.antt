use Rattle.std.proofs.Common.{◌≡◌, []}
use Rattle.toml.specs.View.{members_view}
use Rattle.beat_config.specs.Finding.{seen_of, note_all}
use Rattle.beat_config.specs.Pairs.{scalars_after, scalars_findings}
use Rattle.beat_config.proofs.noted.Noted.scalars.Given as goal

abbrev pub invariant-loop-name : goal.invariant-loop-name
invariant-loop-name l = record {
  told : note_all (seen_of l.self) (scalars_findings l.key (members_view l.name-iterator))
      ≡ note_all (seen_of l.fn.self) (scalars_findings l.key (members_view l.table.entries));
  value : scalars_after l.fields (members_view l.name-iterator) ≡ scalars_after [] (members_view l.table.entries);
}
