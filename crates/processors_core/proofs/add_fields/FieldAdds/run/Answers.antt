use Rattle.std.proofs.Common.{◌≡◌, IfOk, sym, subst}
use Rattle.event_tree.specs.Tree.{value_of}
use Rattle.processors_core.specs.Added.{fields_added}
use Rattle.processors_core.specs.Error.{settled}
use Rattle.processors_core.specs.Targets.{target_text}
use Rattle.processors_core.proofs.add_fields.FieldAdds.run.Goals as goal

pub returns-in-Field : goal.returns-in-Field
returns-in-Field c =
    let added = c.args.self.now in
    let tree = value_of c.args.tree in
    subst (λ t. IfOk c.put_below.result (λ after. value_of after ≡ settled tree (fields_added added.fields (target_text t) tree))) (sym c.in-Field.is) c.put_below.ensures
