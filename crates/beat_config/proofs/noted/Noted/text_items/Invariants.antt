use Rattle.std.proofs.Common.{◌≡◌, ◌++◌, drop}
use Rattle.toml.specs.View.{items_view}
use Rattle.beat_config.specs.Finding.{seen_of, note_all}
use Rattle.beat_config.specs.Text.{texts_in, member_findings}
use Rattle.beat_config.proofs.noted.Noted.text_items.Given as goal

abbrev pub invariant-loop-number : goal.invariant-loop-number
invariant-loop-number l = record {
  told : note_all (seen_of l.self) (member_findings l.form l.key l.number (items_view (drop l.number l.items)))
      ≡ note_all (seen_of l.fn.self) (member_findings l.form l.key 0 (items_view l.items));
  texts : l.texts.items ++ texts_in (items_view (drop l.number l.items)) ≡ texts_in (items_view l.items);
}
