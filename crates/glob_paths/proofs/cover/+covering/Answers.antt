use Rattle.std.proofs.Common.{ap, sym, ◌∙◌, arith, option_copied}
use Rattle.std.proofs.lemmas.Bool.{false≢true}
use Rattle.std.proofs.lemmas.Bool.Decides.{nat_tests}
use Rattle.glob_paths.specs.Cover.{parts_left}
use Rattle.glob_paths.proofs.Covering.{first_left, all_left, deep_found, deep_stuck, deep_empty, deep_next, deep_last}
use Rattle.glob_paths.proofs.cover.+covering.Goals as goal

pub deep_covers-returns-then-parts_cover : goal.deep_covers-returns-then-parts_cover
deep_covers-returns-then-parts_cover t c =
    deep_found _ c.loop-count._count _ _ c.loop-count.invariant c.loop-count-test.true (c.parts_cover.ensures.0 c.if-parts_cover.true)

pub deep_covers-returns-in_default : goal.deep_covers-returns-in_default
deep_covers-returns-in_default t c =
    deep_stuck _ c.loop-count._count _ _ c.loop-count.invariant c.loop-count-test.true
    (λ covers. false≢true (sym c.if-parts_cover.false ∙ c.parts_cover.ensures.1 covers)) (ap (λ path. parts_left (option_copied path)) c.in_default.is)

pub deep_covers-returns-then-is_empty : goal.deep_covers-returns-then-is_empty
deep_covers-returns-then-is_empty t c =
    deep_empty _ c.loop-count._count _ _ c.loop-count.invariant c.loop-count-test.true
    (λ covers. false≢true (sym c.if-parts_cover.false ∙ c.parts_cover.ensures.1 covers)) c.first_part.result.0.now _
    (ap (λ path. parts_left (option_copied path)) c.in-Some.is ∙ first_left _ _ c.first_part.result.1 c.first_part.ensures.cases) (grind (arith, nat_tests, c.if-is_empty.ensures))

pub deep_covers-loop-count-preserved : goal.deep_covers-loop-count-preserved
deep_covers-loop-count-preserved t c =
    deep_next _ c.loop-count._count _ _ c.loop-count.invariant
    (λ covers. false≢true (sym c.if-parts_cover.false ∙ c.parts_cover.ensures.1 covers)) c.first_part.result.0.now _
    (ap (λ path. parts_left (option_copied path)) c.in-Some.is ∙ first_left _ _ c.first_part.result.1 c.first_part.ensures.cases) (grind (arith, nat_tests, c.if-is_empty.ensures))

pub deep_covers-returns : goal.deep_covers-returns
deep_covers-returns t c =
    deep_last _ c.loop-count._count _ _ c.loop-count.invariant c.loop-count-test.false c.loop-count.auto._count-end _ c.parts_cover-2.ensures

pub parts_cover-returns : goal.parts_cover-returns
parts_cover-returns t c = all_left _ c.loop-pattern.pattern c.loop-pattern.path c.is_none.result c.loop-pattern.invariant.0 c.in_default.is c.is_none.ensures
