use Rattle.std.proofs.Common.{◌≡◌, ◌++◌, codes, IfOk, ap, subst, ◌∙◌}
use Rattle.event_tree.specs.Tree.{value_of}
use Rattle.processors_core.specs.Error.{with_error}
use Rattle.processors_core.proofs.add_fields.no_map.Goals as goal

pub returns : goal.returns
returns c =
    subst (λ t. IfOk c.with_error.result (λ after. value_of after ≡ with_error t (value_of c.args.tree)))
    (c.in_ok-text.ensures ∙ ap (λ l. codes "add_fields: no map at " ++ l) c.text.ensures) c.with_error.ensures
