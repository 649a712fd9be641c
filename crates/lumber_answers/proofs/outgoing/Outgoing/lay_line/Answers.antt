use Rattle.std.proofs.Common.{arith, rules, ◌∙◌}
use Rattle.std.proofs.lemmas.Result.{err_from_is_err_and}
use Rattle.lumber_answers.proofs.Laying.{line_unlaid, part_fails, part_laid}
use Rattle.lumber_answers.proofs.outgoing.Outgoing.lay_line.Goals as goal

pub returns-in_err-lay_part-clause-front : goal.returns-in_err-lay_part-clause-front
returns-in_err-lay_part-clause-front g c =
    let p = err_from_is_err_and c.from_residual.result c.from_residual.ensures.1 in
    rw p.1 (part_fails _ _ _ _ _ _ _ _ c.loop-left.invariant.part c.in_err-lay_part.ensures.front)

pub loop-left-preserved : goal.loop-left-preserved
loop-left-preserved g c = record {
  faults = search rules;
  answers = c.in_ok-lay_part.ensures.answers ∙ c.loop-left.invariant.answers;
  part = part_laid _ _ _ _ _ _ _ _ _ _ (omega arith) c.loop-left.invariant.part c.in_ok-lay_part.ensures.laid;
}

pub returns-in_err-push-clause-front : goal.returns-in_err-push-clause-front
returns-in_err-push-clause-front g c =
    let p = err_from_is_err_and c.from_residual-in_err-push.result c.from_residual-in_err-push.ensures.1 in
    rw p.1 (line_unlaid _ _ _ _ _ _ (search rules) c.loop-left.invariant.part)
