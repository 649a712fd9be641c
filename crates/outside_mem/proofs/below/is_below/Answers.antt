use Rattle.std.proofs.Common.{[], ◌∷◌, None, Some}
use Rattle.std.proofs.lemmas.Bool.Decides.{Decides-eqb}
use Rattle.std.proofs.lemmas.Slice.Eq.{strip_prefix_is}
use Rattle.outside_mem.proofs.Paths.{not_below-front, not_below-slash, below-names}
use Rattle.outside_mem.proofs.below.is_below.Goals as goal

pub returns-in_default : goal.returns-in_default
returns-in_default c =
    not_below-front c.args.root.now c.front_of.result.now c.args.path.now c.args.depth c.front_of.ensures
    (strip_prefix_is Decides-eqb c.args.path.now c.front_of.result.now None c.in_default.ensures.cases)

pub returns-in_default-strip_prefix : goal.returns-in_default-strip_prefix
returns-in_default-strip_prefix c =
    not_below-slash c.args.root.now c.front_of.result.now c.args.path.now c.args.depth c.front_of.ensures c.in-Some.rest.now
    (strip_prefix_is Decides-eqb c.args.path.now c.front_of.result.now (Some c.in-Some.rest) c.in-Some.ensures.cases)
    (strip_prefix_is Decides-eqb c.in-Some.rest.now (47 ∷ []) None c.in_default-strip_prefix.ensures.cases)

pub returns : goal.returns
returns c =
    below-names c.args.root.now c.front_of.result.now c.args.path.now c.args.depth c.front_of.ensures c.in-Some.rest.now
    (strip_prefix_is Decides-eqb c.args.path.now c.front_of.result.now (Some c.in-Some.rest) c.in-Some.ensures.cases)
    c.in-Some-strip_prefix.names.now
    (strip_prefix_is Decides-eqb c.in-Some.rest.now (47 ∷ []) (Some c.in-Some-strip_prefix.names) c.in-Some-strip_prefix.ensures.cases)
    _ c.are_names.ensures
