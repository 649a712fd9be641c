use Rattle.std.proofs.Common.{◌<◌, length}
use Rattle.std.proofs.lemmas.List.{length-map}
use Rattle.event_tree.specs.Tree.{pair_of}
use Rattle.event_tree.proofs.Smaller.{map_smaller}
use Rattle.event_tree.proofs.fields.Fields.at.Goals as goal

pub returns-clause-smaller : goal.returns-clause-smaller
returns-clause-smaller c =
    let inside : c.args.i < length c.self.inside.entries.items = rw (← length-map c.self.inside.entries.items pair_of, c.self.view_is) c.requires in
    rw (← c.self.view_is) (map_smaller c.self.inside.entries.items c.args.i c.index-entry.result.now inside c.index-entry.ensures)
