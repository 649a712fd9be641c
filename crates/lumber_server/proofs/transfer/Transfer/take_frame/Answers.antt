use Rattle.std.proofs.lemmas.Result.{err_from_is_err_and}
use Rattle.lumber_answers.proofs.Laying.{front_of_some}
use Rattle.lumber_server.proofs.transfer.Transfer.take_frame.Goals as goal

pub returns-in_err-lay_answer-clause-front : goal.returns-in_err-lay_answer-clause-front
returns-in_err-lay_answer-clause-front g c =
    let p = err_from_is_err_and c.from_residual-in_err-lay_answer.result c.from_residual-in_err-lay_answer.ensures.1 in
    rw (p.1, c.in-Json.is) (front_of_some _ _ _ _ c.in_ok-lay_line.ensures.laid)
