use Rattle.std.proofs.Common.{◌≡◌, true, subst}
use Rattle.regex_meta.proofs.LeftmostLemmas.{are_bytes}
use Rattle.regex_meta.specs.Programs.{pattern_of}
use Rattle.patterns.specs.Matching.{is_found_in_text}
use Rattle.patterns.proofs.Finding.{begins}
use Rattle.patterns.proofs.matcher.Matcher.begins.Goals as goal

pub returns-in-At-clause-found : goal.returns-in-At-clause-found
returns-in-At-clause-found c = λ _.
    let program = c.args.self.now.program in
    let bytes = c.as_bytes-bytes.result.now in
    subst (λ text. is_found_in_text (pattern_of program) text ≡ true) c.as_bytes-bytes.ensures.value
    (begins program bytes (are_bytes bytes (λ i. rw c.as_bytes-bytes.ensures.value (c.type_inv.text i))) c.as_bytes-bytes.ensures.utf8 c.in-At.field-0 c.in-At.ensures.end)
