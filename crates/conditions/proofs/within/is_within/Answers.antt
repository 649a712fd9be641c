use Rattle.std.proofs.Common.{Option, is_some, subst, ap, ◌∙◌, ◌≡◌, sym}
use Rattle.memchr.specs.Find.{FindsNeedle}
use Rattle.conditions.specs.Within.{is_within}
use Rattle.conditions.proofs.Texts.{found_where_within}
use Rattle.conditions.proofs.within.is_within.Goals as goal

pub returns : goal.returns
returns c =
    c.is_some.ensures ∙ found_where_within c.bytes.result.now c.bytes-2.result.now c.find.result c.find.ensures
    ∙ (λ i. is_within (c.bytes-2.ensures.same i) (c.bytes.ensures.same i))
