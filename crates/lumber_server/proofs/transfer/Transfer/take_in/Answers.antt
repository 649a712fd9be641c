use Rattle.std.proofs.Common.{arith, refl}
use Rattle.std.proofs.lemmas.Result.{err_from_is_err_and}
use Rattle.lumber_server.specs.Standing.{state_of}
use Rattle.lumber_server.proofs.Moving.{fails_further, hand_on_fails, hands_on_as}
use Rattle.lumber_server.proofs.Taking.{all_handed, leaves_short, stops_behind}
use Rattle.lumber_server.proofs.transfer.Transfer.take_in.Goals as goal

pub returns-in_err-hand_on-clause-fails : goal.returns-in_err-hand_on-clause-fails
returns-in_err-hand_on-clause-fails g c =
    let p = err_from_is_err_and c.from_residual-in_err-hand_on.result c.from_residual-in_err-hand_on.ensures.1 in
    rw p.1 (fails_further _ _ _ _ _ c.in_ok-left.ensures.taken.goes_on (hand_on_fails _ _ c.take_frames.new.self _ c.in_err-hand_on.ensures.fails))

pub returns-in-Stop-clause-taken : goal.returns-in-Stop-clause-taken
returns-in-Stop-clause-taken g c =
    let done = c.in_ok-hand_on.ensures in
    stops_behind _ _ _ _ c.args.bytes.now c.in_ok-left.left _ _ _ (all_handed _ _ _ _ c.take_frames.new.self _ _ _ c.in_ok-left.ensures.taken refl
    (hands_on_as _ _ (state_of c.take_frames.new.self _) c.hand_on.new.self.lines.items c.hand_on.new.self.answers.items done.no_lines done.no_answers done.written done.sent) done.no_lines done.no_answers)
    c.in-Stop.ensures (omega arith) c.saturating_add.ensures

pub returns-in-Short-clause-taken : goal.returns-in-Short-clause-taken
returns-in-Short-clause-taken g c =
    let done = c.in_ok-hand_on.ensures in
    leaves_short _ _ _ _ c.args.bytes.now c.in_ok-left.left _ (all_handed _ _ _ _ c.take_frames.new.self _ _ _ c.in_ok-left.ensures.taken refl
    (hands_on_as _ _ (state_of c.take_frames.new.self _) c.hand_on.new.self.lines.items c.hand_on.new.self.answers.items done.no_lines done.no_answers done.written done.sent) done.no_lines done.no_answers)
    c.in-Short.ensures (omega arith)
