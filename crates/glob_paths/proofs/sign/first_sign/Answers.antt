use Rattle.glob_paths.proofs.Signs.{signs_none, signs_plain, signs_backslash}
use Rattle.glob_paths.proofs.sign.first_sign.Goals as goal

pub returns-then-code-eq92-clause-cases : goal.returns-then-code-eq92-clause-cases
returns-then-code-eq92-clause-cases c =
    signs_backslash _ _ _ _ _ c.in-Some.ensures.cases c.if-code-eq92.true c.after_backslash.ensures.value

pub returns-clause-cases : goal.returns-clause-cases
returns-clause-cases c = signs_plain _ _ _ c.in-Some.ensures.cases c.if-code-eq92.false

pub returns-in_default-clause-cases : goal.returns-in_default-clause-cases
returns-in_default-clause-cases c = signs_none _ c.in_default.ensures.cases
