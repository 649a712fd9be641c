use Rattle.std.proofs.lemmas.Result.{err_from_is_err_and}
use Rattle.lumber_server.proofs.Taking.{next_fails, none_at_short, none_at_stop, takes_next, takes_none}
use Rattle.lumber_server.proofs.transfer.Transfer.take_next.Goals as goal

pub returns-in-Stop-clause-taken : goal.returns-in-Stop-clause-taken
returns-in-Stop-clause-taken g c = takes_none _ _ _ (none_at_stop _ _ _ c.in-Stop.ensures)

pub returns-in-Short-clause-taken : goal.returns-in-Short-clause-taken
returns-in-Short-clause-taken g c = takes_none _ _ _ (none_at_short _ _ c.in-Short.ensures)

pub returns-in_err-take_frame-in-Owed-clause-fails : goal.returns-in_err-take_frame-in-Owed-clause-fails
returns-in_err-take_frame-in-Owed-clause-fails g c =
    let p = err_from_is_err_and c.from_residual-in_err-take_frame-in-Owed.result c.from_residual-in_err-take_frame-in-Owed.ensures.1 in
    rw p.1 (next_fails _ _ c.args.self.now c.make_room.new.self _ _ _ _ _ c.in-Owed.ensures c.make_room.ensures.same_reading (c.in_ok-make_room-in-Owed.ensures.goes_on c.args.bytes.now) c.in_err-take_frame-in-Owed.ensures.front)

pub returns-in_ok-take_frame-in-Owed-clause-taken : goal.returns-in_ok-take_frame-in-Owed-clause-taken
returns-in_ok-take_frame-in-Owed-clause-taken g c =
    takes_next _ _ c.args.self.now c.make_room.new.self c.take_frame.new.self _ _ _ _ _ c.in-Owed.ensures c.make_room.ensures.same_reading (c.in_ok-make_room-in-Owed.ensures.goes_on c.args.bytes.now) c.in_ok-take_frame-in-Owed.ensures.taken
