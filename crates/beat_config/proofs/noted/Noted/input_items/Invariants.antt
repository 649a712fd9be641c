use Rattle.std.proofs.Common.{◌≡◌, ◌++◌, [], drop}
use Rattle.toml.specs.View.{items_view}
use Rattle.beat_config.specs.Finding.{seen_of, note_all}
use Rattle.beat_config.specs.Input.{ids_of, inputs_in, inputs_item_findings}
use Rattle.beat_config.proofs.noted.Noted.input_items.Given as goal

abbrev pub invariant-loop-number : goal.invariant-loop-number
invariant-loop-number l = record {
  told : note_all (seen_of l.self) (inputs_item_findings l.key l.number (ids_of l.rules.items) (items_view (drop l.number l.items)))
      ≡ note_all (seen_of l.fn.self) (inputs_item_findings l.key 0 [] (items_view l.items));
  rules : l.rules.items ++ inputs_in (items_view (drop l.number l.items)) ≡ inputs_in (items_view l.items);
}
