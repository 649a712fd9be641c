use Rattle.std.proofs.lemmas.Result.{err_from_is_err_and}
use Rattle.lumber_server.specs.Standing.{state_of}
use Rattle.lumber_server.proofs.Moving.{hand_on_fails, hands_on_as, stays}
use Rattle.lumber_server.proofs.transfer.Transfer.make_room.Goals as goal

pub returns-in_err-hand_on-clause-fails : goal.returns-in_err-hand_on-clause-fails
returns-in_err-hand_on-clause-fails g c =
    let p = err_from_is_err_and c.from_residual.result c.from_residual.ensures.1 in
    rw p.1 (λ bytes. hand_on_fails _ _ c.args.self.now bytes c.in_err-hand_on.ensures.fails)

pub returns-in_ok-hand_on-clause-goes_on : goal.returns-in_ok-hand_on-clause-goes_on
returns-in_ok-hand_on-clause-goes_on g c bytes =
    let done = c.in_ok-hand_on.ensures in
    hands_on_as _ _ (state_of c.args.self.now bytes) c.hand_on.new.self.lines.items c.hand_on.new.self.answers.items done.no_lines done.no_answers done.written done.sent

pub returns-else-is_full-clause-goes_on : goal.returns-else-is_full-clause-goes_on
returns-else-is_full-clause-goes_on g c bytes = stays _ _
