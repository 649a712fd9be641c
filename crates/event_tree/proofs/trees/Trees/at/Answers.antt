use Rattle.std.proofs.Common.{◌<◌, length}
use Rattle.std.proofs.lemmas.List.{length-map}
use Rattle.event_tree.specs.Tree.{value_of}
use Rattle.event_tree.proofs.Smaller.{list_smaller}
use Rattle.event_tree.proofs.trees.Trees.at.Goals as goal

pub returns-clause-smaller : goal.returns-clause-smaller
returns-clause-smaller c =
    let inside : c.args.i < length c.self.inside.trees.items = rw (← length-map c.self.inside.trees.items value_of, c.self.view_is) c.requires in
    rw (← c.self.view_is) (list_smaller c.self.inside.trees.items c.args.i c.index.result.now inside c.index.ensures)
