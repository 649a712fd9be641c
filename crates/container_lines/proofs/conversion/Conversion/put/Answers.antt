use Rattle.std.proofs.Common.{◌++◌, [], ◌∷◌}
use Rattle.std.proofs.lemmas.Result.{err_from_is_err_and}
use Rattle.container_lines.proofs.Outputs.{stands_front, front_longer}
use Rattle.container_lines.proofs.conversion.Conversion.put.Goals as goal

pub returns-in_err-extend_from_slice-clause-front : goal.returns-in_err-extend_from_slice-clause-front
returns-in_err-extend_from_slice-clause-front g c =
    let p = err_from_is_err_and c.from_residual.result c.from_residual.ensures.1 in
    rw (p.1) (λ before text stands. front_longer before text (c.args.message.now ++ 10 ∷ []) _ (stands_front _ _ _ _ stands))

pub returns-in_err-push-clause-front : goal.returns-in_err-push-clause-front
returns-in_err-push-clause-front g c =
    let p = err_from_is_err_and c.from_residual-in_err-push.result c.from_residual-in_err-push.ensures.1 in
    rw (p.1) (λ before text stands. front_longer before text (c.args.message.now ++ 10 ∷ []) _ (stands_front _ _ _ _ stands))
