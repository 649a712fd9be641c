use Rattle.std.proofs.Common.{◌∙◌, arith}
use Rattle.std.proofs.lemmas.Result.{IfOk-weaker}
use Rattle.spool_queue.specs.Log.{Empty}
use Rattle.spool_queue.proofs.Walks.{at_front, payload_at}
use Rattle.spool_queue.proofs.spool.Spool.read.Goals as goal

pub returns-clause-payload : goal.returns-clause-payload
returns-clause-payload g c = λ bytes list told is.
    let found = c.read_event.ensures.told bytes Empty told (at_front bytes c.start-walk.result c.start-walk.ensures.place c.start-walk.ensures.events c.start-walk.ensures.settled) in
    IfOk-weaker c.read_event.result _ _
    (λ blob one. payload_at bytes c.read_event.new.self one.0 is.log blob c.args.self.now.end c.args.i list one.1 (one.2 ∙ omega (arith, is.settlements)) (omega (arith, one.2)) is.ends is.list_is) found

pub returns-clause-never_bad : goal.returns-clause-never_bad
returns-clause-never_bad g c = λ bytes list told is at same.
    c.read_event.ensures.never_bad bytes Empty is.log c.args.self.now.end told (at_front bytes c.start-walk.result c.start-walk.ensures.place c.start-walk.ensures.events c.start-walk.ensures.settled) is.ends
    (omega (arith, is.events)) at same
