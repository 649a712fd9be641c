use Rattle.std.proofs.Common.{◌≡◌, IfOk, ap, subst, ◌∙◌}
use Rattle.regex_meta.proofs.LeftmostLemmas.{are_bytes}
use Rattle.regex_meta.specs.Programs.{pattern_of}
use Rattle.patterns.specs.Matching.{matches}
use Rattle.patterns.proofs.Finding.{tree_matches}
use Rattle.patterns.proofs.line_pattern.LinePattern.matches.Goals as goal

pub returns-clause-found : goal.returns-clause-found
returns-clause-found c =
    let bytes = c.args.bytes.now in
    let tree = pattern_of c.self.inside.matcher.program in
    let meant = tree_matches c.self.inside.text tree c.self.invariant bytes (are_bytes bytes c.type_inv.bytes)
    ∙ ap (λ text. matches text bytes) c.self.view_is in
    subst (λ b. IfOk c.finds.result (λ found. found ≡ b)) meant c.finds.ensures.found
