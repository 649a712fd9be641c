use Rattle.std.proofs.Common.{ap, ◌∙◌, ◌++◌, ◌∷◌, [], rules}
use Rattle.std.proofs.lemmas.Result.{err_from_is_err_and}
use Rattle.prospect.specs.declared.listed.Listed.{Listed}
use Rattle.prospect.proofs.Covering.{adds_covered, adds_uncovered, keyless_here}
use Rattle.prospect.proofs.by_path.list_entry.Goals as goal

pub returns-then-not-covers-clause-covered : goal.returns-then-not-covers-clause-covered
returns-then-not-covers-clause-covered c = adds_uncovered _ _ (search rules)

pub returns-clause-covered : goal.returns-clause-covered
returns-clause-covered c =
    adds_covered _ _ _ c.in_ok-file.ensures.is_one
    (c.in_ok-push.ensures.items ∙ ap (λ (one : Listed). c.args.listed.now.items ++ one ∷ []) c.in_ok-file.ensures.file)

pub returns-in_err-file-clause-stops : goal.returns-in_err-file-clause-stops
returns-in_err-file-clause-stops c =
    let p = err_from_is_err_and c.from_residual.result c.from_residual.ensures.1 in
    rw (p.1, p.2) (keyless_here _ _ (c.covers.ensures.0 c.if-not-covers.false) c.in_err-file.ensures.untold)
