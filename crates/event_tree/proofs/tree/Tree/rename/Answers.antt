use Rattle.std.proofs.Common.{sym, ap, ◌∙◌}
use Rattle.event_tree.specs.Paths.{get_at}
use Rattle.event_tree.specs.Tree.{value_of}
use Rattle.event_tree.proofs.PathLaws.{get_put, get_put_apart, free_after_remove}
use Rattle.event_tree.proofs.tree.Tree.rename.Goals as goal

-- the way was free before the removal
pub put_parts-requires : goal.put_parts-requires
put_parts-requires c =
    rw (c.parts-2.ensures.parts, c.remove.ensures.left, c.in_ok-next.ensures) (free_after_remove c.args.to.now c.args.from.now (value_of c.args.self.now) (rw (← c.parts.ensures.parts) (sym c.blocked.ensures ∙ c.in_default.is)))

pub returns-clause-moved : goal.returns-clause-moved
returns-clause-moved c =
    rw (c.in_ok-put_parts.ensures.put, c.parts-2.ensures.parts) (get_put c.args.to.now (value_of c.in-Some-remove.moved) (value_of c.remove.new.self))
    ∙ c.in-Some-remove.ensures.taken ∙ ap (get_at c.args.from.now) c.in_ok-next.ensures

pub returns-clause-gone : goal.returns-clause-gone
returns-clause-gone c = λ apart.
    rw (c.in_ok-put_parts.ensures.put, c.parts-2.ensures.parts) (get_put_apart c.args.to.now c.args.from.now apart (value_of c.in-Some-remove.moved) (value_of c.remove.new.self))
    ∙ c.remove.ensures.gone

pub returns-clause-others : goal.returns-clause-others
returns-clause-others c = λ other from_other to_other.
    rw (c.in_ok-put_parts.ensures.put, c.parts-2.ensures.parts) (get_put_apart c.args.to.now other to_other (value_of c.in-Some-remove.moved) (value_of c.remove.new.self))
    ∙ c.remove.ensures.others other from_other ∙ ap (get_at other) c.in_ok-next.ensures
