use Rattle.event_tree.specs.Tree.{value_of}
use Rattle.event_tree.proofs.PathLaws.{get_put, get_put_apart}
use Rattle.event_tree.proofs.tree.Tree.put.Goals as goal

pub returns-clause-found : goal.returns-clause-found
returns-clause-found c =
    rw (c.in_ok-put_parts.ensures.put, c.parts-2.ensures.parts) (get_put c.args.path.now (value_of c.args.value) (value_of c.args.self.now))

pub returns-clause-others : goal.returns-clause-others
returns-clause-others c = λ other apart.
    rw (c.in_ok-put_parts.ensures.put, c.parts-2.ensures.parts) (get_put_apart c.args.path.now other apart (value_of c.args.value) (value_of c.args.self.now))
