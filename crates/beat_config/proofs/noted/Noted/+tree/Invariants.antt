use Rattle.std.proofs.Common.{◌≡◌, ◌++◌, [], drop}
use Rattle.toml.specs.View.{items_view, members_view}
use Rattle.beat_config.specs.Finding.{seen_of, note_all}
use Rattle.beat_config.specs.Tree.{trees_in, fields_after, tree_item_findings, tree_member_findings}
use Rattle.beat_config.proofs.noted.Noted.+tree.Given as goal

abbrev pub invariant-trees-loop-number : goal.invariant-trees-loop-number
invariant-trees-loop-number l = record {
  told : note_all (seen_of l.self) (tree_item_findings l.key l.number (items_view (drop l.number l.items)))
      ≡ note_all (seen_of l.fn.self) (tree_item_findings l.key 0 (items_view l.items));
  trees : l.trees ++ trees_in (items_view (drop l.number l.items)) ≡ trees_in (items_view l.items);
}

abbrev pub invariant-fields-loop-name : goal.invariant-fields-loop-name
invariant-fields-loop-name l = record {
  told : note_all (seen_of l.self) (tree_member_findings l.key (members_view l.name-iterator))
      ≡ note_all (seen_of l.fn.self) (tree_member_findings l.key (members_view l.members.entries));
  fields : fields_after l.fields (members_view l.name-iterator) ≡ fields_after [] (members_view l.members.entries);
}
