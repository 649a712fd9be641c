use Rattle.std.proofs.Common.{[], sym, ap, ◌∙◌}
use Rattle.event_tree.specs.Paths.{map_of}
use Rattle.event_tree.specs.Tree.{value_of}
use Rattle.processors_core.specs.Added.{fields_added}
use Rattle.processors_core.specs.Error.{settled}
use Rattle.processors_core.proofs.Overs.{added_at_top}
use Rattle.processors_core.proofs.add_fields.put_on_top.Goals as goal

pub returns-in_ok-put_over-in-Map : goal.returns-in_ok-put_over-in-Map
returns-in_ok-put_over-in-Map c =
    let added = c.args.added.now in
    ap map_of c.in_ok-put_over-in-Map.ensures ∙ added_at_top added c.in-Map.fields ∙ ap (λ t. settled (value_of t) (fields_added added [] (value_of t))) (sym c.in-Map.is)
