use Rattle.std.proofs.Common.{is_some, sym, ap, ◌∙◌}
use Rattle.event_tree.specs.Parts.{parts_of}
use Rattle.event_tree.specs.Paths.{blocked_at, get_at, map_of, put_at}
use Rattle.event_tree.specs.Tree.{value_of}
use Rattle.processors_core.specs.Over.{map_at}
use Rattle.processors_core.proofs.Overs.{put_there, is_positive}
use Rattle.processors_core.proofs.add_fields.put_below.Goals as goal

pub returns-in-Ok : goal.returns-in-Ok
returns-in-Ok c =
    let added = c.args.added.now in
    let parts = parts_of c.args.target.now in
    let tree = value_of c.args.tree in
    c.in-Ok.ensures.put
    ∙ ap (λ p. put_at p (map_of c.put_over.new.fields) tree) c.path-3.ensures.parts
    ∙ ap (λ l. put_at parts (map_of l) tree) c.in_ok-put_over.ensures
    ∙ put_there added c.args.target.now tree c.path.ensures.named
    (sym c.if-is_blocked.false ∙ c.is_blocked.ensures ∙ ap (λ p. is_some (blocked_at p tree)) c.path-2.ensures.parts) c.in-Some.fields
    (sym c.in-Some.is ∙ c.in_ok-found.ensures ∙ ap map_at (c.get.ensures ∙ ap (λ p. get_at p tree) c.path.ensures.parts))
    (is_positive c.len.result _ c.if-len-eq0.false c.len.ensures)
