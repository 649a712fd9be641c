use Rattle.event_tree.specs.Tree.{value_of}
use Rattle.event_tree.proofs.PathLaws.{gone_after_remove, get_remove_apart}
use Rattle.event_tree.proofs.tree.Tree.remove.Goals as goal

pub returns-clause-gone : goal.returns-clause-gone
returns-clause-gone c =
    rw (c.take_parts.ensures.left, c.parts.ensures.parts) (gone_after_remove c.args.path.now (value_of c.args.self.now) c.parts.ensures.named.some)

pub returns-clause-others : goal.returns-clause-others
returns-clause-others c = λ other apart.
    rw (c.take_parts.ensures.left, c.parts.ensures.parts) (get_remove_apart c.args.path.now other apart (value_of c.args.self.now))
