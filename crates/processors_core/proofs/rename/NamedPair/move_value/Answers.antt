use Rattle.std.proofs.Common.{◌≡◌, Some, None, sym, ◌∙◌}
use Rattle.event_tree.specs.Parts.{parts_of}
use Rattle.event_tree.specs.Paths.{blocked_at}
use Rattle.event_tree.specs.Tree.{value_of}
use Rattle.processors_core.specs.Pairs.{pair_of}
use Rattle.processors_core.proofs.Moves.{is_free}
use Rattle.processors_core.proofs.Ways.{free_after_remove}
use Rattle.processors_core.proofs.rename.NamedPair.move_value.Goals as goal

pub unreachable-requires-in-Err-NotObject : goal.unreachable-requires-in-Err-NotObject
unreachable-requires-in-Err-NotObject c =
    let pair = c.args.self.now in
    let tree = value_of c.args.tree.now in
    let free : blocked_at c.path-2.result.now (value_of c.remove.new.self) ≡ None =
    rw (c.path-2.ensures.parts, c.remove.ensures.left, c.path.ensures.parts)
    (free_after_remove (parts_of pair.to) (parts_of pair.from) tree (is_free (pair_of pair) tree c.requires)) in
    let refused : blocked_at c.path-2.result.now (value_of c.remove.new.self) ≡ Some c.in-Err-NotObject.field-0-0 =
    rw (c.in-Err-NotObject.is, c.in-Err-NotObject.field-0-is) at c.put.ensures.refused in
    let both : None ≡ Some c.in-Err-NotObject.field-0-0 = sym free ∙ refused in
    cc
