use Rattle.std.proofs.Common.{◌≡◌, ◌<◌, length, true, false, sym, ap, ◌∙◌, rules, tests, arith}
use Rattle.line_filter.specs.LinePatterns.{LinePatterns}
use Rattle.line_filter.specs.Verdict.{is_matched, is_not_included}
use Rattle.line_filter.proofs.Rules.{is_empty_message, is_left_out, is_ruled}
use Rattle.line_filter.proofs.filter.Filter.verdict.Goals as goal

pub returns-then-is_empty-clause-verdict : goal.returns-then-is_empty-clause-verdict
returns-then-is_empty-clause-verdict c =
    let none : length c.args.message.now ≡ 0 = search (rules, tests) in
    is_empty_message c.args.self.now.include c.args.self.now.exclude c.args.message.now none

pub returns-then-branch-clause-verdict : goal.returns-then-branch-clause-verdict
returns-then-branch-clause-verdict c =
    let some : 0 < length c.args.message.now = grind (arith, tests) in
    is_left_out c.args.self.now.include c.args.self.now.exclude c.args.message.now (λ none. omega (arith, some, none))
    (sym c.if-branch.true ∙ c.in_ok-is_left_out.ensures.left_out
    ∙ ap (λ l. is_not_included l c.args.message.now) (c.deref_mut.ensures.value ∙ ap (λ (p : LinePatterns). p.include) c.self.view_is))

pub returns-then-branch-2-clause-verdict : goal.returns-then-branch-2-clause-verdict
returns-then-branch-2-clause-verdict c =
    let some : 0 < length c.args.message.now = grind (arith, tests) in
    is_ruled c.args.self.now.include c.args.self.now.exclude c.args.message.now true (λ none. omega (arith, some, none))
    (sym c.if-branch.false ∙ c.in_ok-is_left_out.ensures.left_out
    ∙ ap (λ l. is_not_included l c.args.message.now) (c.deref_mut.ensures.value ∙ ap (λ (p : LinePatterns). p.include) c.self.view_is))
    (sym c.if-branch-2.true ∙ c.in_ok-is_matched.ensures.matched
    ∙ ap (λ l. is_matched l c.args.message.now) (c.deref_mut-2.ensures.value ∙ ap (λ (p : LinePatterns). p.exclude) c.self.view_is))

pub returns-clause-verdict : goal.returns-clause-verdict
returns-clause-verdict c =
    let some : 0 < length c.args.message.now = grind (arith, tests) in
    is_ruled c.args.self.now.include c.args.self.now.exclude c.args.message.now false (λ none. omega (arith, some, none))
    (sym c.if-branch.false ∙ c.in_ok-is_left_out.ensures.left_out
    ∙ ap (λ l. is_not_included l c.args.message.now) (c.deref_mut.ensures.value ∙ ap (λ (p : LinePatterns). p.include) c.self.view_is))
    (sym c.if-branch-2.false ∙ c.in_ok-is_matched.ensures.matched
    ∙ ap (λ l. is_matched l c.args.message.now) (c.deref_mut-2.ensures.value ∙ ap (λ (p : LinePatterns). p.exclude) c.self.view_is))
