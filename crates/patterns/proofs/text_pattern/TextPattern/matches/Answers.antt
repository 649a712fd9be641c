use Rattle.std.proofs.Common.{◌≡◌, IfOk, ap, subst, ◌∙◌}
use Rattle.regex_meta.proofs.LeftmostLemmas.{are_bytes}
use Rattle.regex_meta.specs.Programs.{pattern_of}
use Rattle.patterns.specs.Matching.{matches_text}
use Rattle.patterns.proofs.Finding.{tree_matches_text}
use Rattle.patterns.proofs.text_pattern.TextPattern.matches.Goals as goal

pub returns-clause-found : goal.returns-clause-found
returns-clause-found c =
    let text = c.args.text.now in
    let tree = pattern_of c.self.inside.matcher.program in
    let meant = tree_matches_text c.self.inside.text tree c.self.invariant.0 text (are_bytes text c.type_inv.text)
    ∙ ap (λ pattern. matches_text pattern text) c.self.view_is in
    subst (λ b. IfOk c.finds_in_text.result (λ found. found ≡ b)) meant c.finds_in_text.ensures.found
