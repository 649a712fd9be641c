use Rattle.std.proofs.Common.{sym, arith, rules}
use Rattle.glob_paths.proofs.Matching.{front_star, front_short, front_apart, front_goes, front_whole, front_long}
use Rattle.glob_paths.proofs.part.try_front.Goals as goal

pub returns-then-is-clause-leads : goal.returns-then-is-clause-leads
returns-then-is-clause-leads c =
    front_star _ _ _ _ _ _ c.loop-sign.invariant.2 c.in-Some.ensures.cases (sym c.if-is.ensures)

pub returns-in_default-first_char-clause-leads : goal.returns-in_default-first_char-clause-leads
returns-in_default-first_char-clause-leads c =
    front_short _ _ _ _ _ _ c.loop-sign.invariant.2 c.in-Some.ensures.cases (sym c.if-is.ensures) c.in_default-first_char.ensures.cases

pub returns-in_default-token_after-clause-leads : goal.returns-in_default-token_after-clause-leads
returns-in_default-token_after-clause-leads c =
    front_apart _ _ _ _ _ _ _ _ c.loop-sign.invariant.2 c.in-Some.ensures.cases (sym c.if-is.ensures) c.in-Some-first_char.ensures.cases c.in_default-token_after.ensures.taken

pub loop-sign-preserved : goal.loop-sign-preserved
loop-sign-preserved c = (
  search rules,
  search rules,
  front_goes _ _ _ _ _ _ _ _ _ c.loop-sign.invariant.2 c.in-Some.ensures.cases c.in-Some-first_char.ensures.cases c.in-Some-token_after.ensures.taken c.in-Some-token_after.ensures.behind,
  omega (arith, c.in-Some-token_after.ensures.no_longer, c.in-Some.ensures.shorter),
  omega (arith, c.in-Some-first_char.ensures.shorter),
)

pub returns-in-None-clause-leads : goal.returns-in-None-clause-leads
returns-in-None-clause-leads c =
    front_whole _ _ _ _ c.loop-sign.invariant.2 c.in_default.ensures.cases c.in-None.ensures.cases

pub returns-in-Some-first_char-2-clause-leads : goal.returns-in-Some-first_char-2-clause-leads
returns-in-Some-first_char-2-clause-leads c =
    front_long _ _ _ _ _ _ c.loop-sign.invariant.2 c.in_default.ensures.cases c.in-Some-first_char-2.ensures.cases
