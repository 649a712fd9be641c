use Rattle.std.proofs.Common.{◌≡◌, ◌++◌}
use Rattle.toml.specs.View.{members_view}
use Rattle.beat_config.specs.Finding.{seen_of, note_all}
use Rattle.beat_config.specs.Pairs.{texts_at_in, texts_at_findings}
use Rattle.beat_config.proofs.noted.Noted.texts_at.Given as goal

abbrev pub invariant-loop-name : goal.invariant-loop-name
invariant-loop-name l = record {
  told : note_all (seen_of l.self) (texts_at_findings l.form l.key (members_view l.name-iterator))
      ≡ note_all (seen_of l.fn.self) (texts_at_findings l.form l.key (members_view l.table.entries));
  value : l.texts.items ++ texts_at_in (members_view l.name-iterator) ≡ texts_at_in (members_view l.table.entries);
}
