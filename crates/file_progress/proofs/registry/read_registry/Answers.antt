use Rattle.std.proofs.Common.{◌∙◌}
use Rattle.file_progress.proofs.Registries.{gives}
use Rattle.file_progress.proofs.registry.read_registry.Goals as goal

pub returns-then-not-is_bad-clause-given : goal.returns-then-not-is_bad-clause-given
returns-then-not-is_bad-clause-given g c = λ first second a b.
    gives c.pick-picked.result c.registry_of.result first second c.registry_of.ensures
    (c.pick-picked.ensures.chosen first second (c.tries.invariant.a.contents_kept ∙ a) (c.tries.invariant.b.contents_kept ∙ b))

pub returns-clause-given : goal.returns-clause-given
returns-clause-given g c = λ first second a b.
    gives c.pick.result c.registry_of-2.result first second c.registry_of-2.ensures
    (c.pick.ensures.chosen first second (c.tries.invariant.a.contents_kept ∙ a) (c.tries.invariant.b.contents_kept ∙ b))
