use Rattle.std.proofs.Common.{◌≡◌, ◌∙◌, vec_len, option_map, string_bytes, arith, subst, sym, lit≤}
use Rattle.std.proofs.lemmas.List.{length-map}
use Rattle.regex.proofs.CompilableLemmas.{compilable, groups_named}
use Rattle.regex.specs.Writes.{HasTextParts}
use Rattle.regex_hir.specs.Meaning.{meaning}
use Rattle.patterns.specs.Matching.{IsReadAs}
use Rattle.patterns.proofs.Characters.{whole_characters}
use Rattle.patterns.proofs.Reading.{read_as}
use Rattle.patterns.proofs.matcher.Matcher.new.Goals as goal

pub returns-clause-tree : goal.returns-clause-tree
returns-clause-tree c =
    let tree = rw c.in-Some.is at c.in_ok-parsed.ensures.tree in
    subst (λ hir. IsReadAs c.args.config.now c.args.text.now (meaning hir)) (sym c.in-Ok-new.ensures.pattern)
    (read_as c.args.config.now c.args.text.now c.in-Some.parsed.hir _ tree)

pub returns-clause-whole_characters : goal.returns-clause-whole_characters
returns-clause-whole_characters c = λ utf8.
    let formed = rw c.in-Some.is at c.in_ok-parsed.ensures.formed in
    subst (λ hir. HasTextParts (meaning hir)) (sym c.in-Ok-new.ensures.pattern)
    (whole_characters c.args.config.now.utf8 utf8 c.in-Some.parsed.hir formed)

pub want_of-requires : goal.want_of-requires
want_of-requires c =
    let tree = rw c.in-Some.is at c.in_ok-parsed.ensures.tree in
    let formed = rw c.in-Some.is at c.in_ok-parsed.ensures.formed in
    let group_zero = rw c.in-Some.is at c.in_ok-parsed.ensures.group_zero in
    let names = c.in-Some.parsed.names in
    let counted : c.in-Ok.groups ≡ vec_len names = c.in-Ok.ensures.1 ∙ c.len.ensures in
    let few = groups_named c.args.config.now c.args.text.now c.in-Some.parsed.hir _ tree in
    c.in-Err.ensures.whole
    (compilable c.args.config.now.utf8 c.in-Ok.groups c.in-Some.parsed.hir formed
    (omega (arith, names.ok.0, length-map names.items (option_map string_bytes))))
    (omega arith) (lit≤ tt)
