use Rattle.std.proofs.Common.{sym, ap, subst, ◌∙◌, arith}
use Rattle.regex.specs.Utf8.{MatchesText}
use Rattle.regex_meta.proofs.LeftmostLemmas.{are_bytes}
use Rattle.regex_meta.specs.Programs.{pattern_of}
use Rattle.patterns.specs.Matching.{is_found, is_found_in_text}
use Rattle.patterns.proofs.Finding.{missed, filled}
use Rattle.patterns.proofs.matcher.Matcher.finds_in_text.Goals as goal

pub returns-then-not-branch-clause-found : goal.returns-then-not-branch-clause-found
returns-then-not-branch-clause-found c =
    let tree = pattern_of c.args.self.now.program in
    sym (missed tree c.args.text.now
    (ap (is_found tree) (sym c.as_bytes.ensures.value) ∙ sym c.in_ok-finds.ensures.found ∙ c.if-not-branch.true))

pub returns-then-self-gt0-clause-found : goal.returns-then-self-gt0-clause-found
returns-then-self-gt0-clause-found c =
    let program = c.finds.new.self.program in
    let same = c.in_ok-finds.ensures.same in
    let long = c.if-self-gt0.true in
    let text = c.args.text.now in
    sym c.if-not-branch.false ∙ c.in_ok-finds.ensures.found ∙ ap (is_found (pattern_of c.args.self.now.program)) c.as_bytes.ensures.value
    ∙ ap (λ tree. is_found tree text) (sym same)
    ∙ filled program text (are_bytes text c.type_inv.text) (subst MatchesText (sym same) c.requires) (omega arith)
    ∙ ap (λ tree. is_found_in_text tree text) same
