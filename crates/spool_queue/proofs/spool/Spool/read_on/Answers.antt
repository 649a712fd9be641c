use Rattle.std.proofs.Common.{◌≡◌, ◌+◌, length, sym, subst, arith}
use Rattle.std.proofs.lemmas.Result.{IfOk-weaker}
use Rattle.spool_queue.specs.declared.walk.Walk.{Walk}
use Rattle.spool_queue.specs.Log.{Log, Empty, Then, payloads, settled}
use Rattle.spool_queue.specs.Records.{Event}
use Rattle.spool_queue.specs.Walking.{IsWalkOf}
use Rattle.spool_queue.proofs.Walks.{at_front, payload_at}
use Rattle.spool_queue.proofs.spool.Spool.read_on.Goals.{then-walk-number, else-walk-number}
use Rattle.spool_queue.proofs.spool.Spool.read_on.Goals as goal

pub returns-clause-payload : goal.returns-clause-payload
returns-clause-payload g c = λ bytes list log told is walked.
    let W : Walk → Type 0 = λ w. (log : Log) × IsWalkOf bytes w log in
    let at : W c.if-walk-number.walk = elim c.if-walk-number.branch [
      | then-walk-number w ↦ subst W (sym w.walk-is) (Empty, at_front bytes w.start.result w.start.ensures.place w.start.ensures.events w.start.ensures.settled)
      | else-walk-number w ↦ subst W (sym w.walk-is) (log, walked)
    ] in
    let found = c.read_event.ensures.told bytes at.0 told at.1 in
    IfOk-weaker c.read_event.result _ _
    (λ blob one.
    let number : length (payloads one.0) ≡ settled is.log + c.args.i = omega (arith, one.2, is.settlements) in
    (payload_at bytes c.read_event.new.self one.0 is.log blob c.args.self.now.end c.args.i list one.1 number (omega (arith, one.2)) is.ends is.list_is, (Then one.0 (Event blob), one.1))) found

pub returns-clause-never_bad : goal.returns-clause-never_bad
returns-clause-never_bad g c = λ bytes list log told is walked at same.
    let W : Walk → Type 0 = λ w. (log : Log) × IsWalkOf bytes w log in
    let from : W c.if-walk-number.walk = elim c.if-walk-number.branch [
      | then-walk-number w ↦ subst W (sym w.walk-is) (Empty, at_front bytes w.start.result w.start.ensures.place w.start.ensures.events w.start.ensures.settled)
      | else-walk-number w ↦ subst W (sym w.walk-is) (log, walked)
    ] in
    c.read_event.ensures.never_bad bytes from.0 is.log c.args.self.now.end told from.1 is.ends (omega (arith, is.events)) at same
