use Rattle.std.proofs.Common.{◌≡◌, Ok, Err, ⊎_elim, ap, arith, sym, subst}
use Rattle.std.proofs.lemmas.Result.{err_from_is_err_and}
use Rattle.spool_queue.specs.declared.spool_error.SpoolError.{SpoolError}
use Rattle.spool_queue.specs.declared.spool_error.SpoolError.TheVariants.{Bad, DiskFault}
use Rattle.spool_queue.specs.declared.stop.Stop.{Stop}
use Rattle.spool_queue.specs.declared.stop.Stop.TheVariants.{Spool}
use Rattle.spool_queue.specs.SendSoFar.{SendsAll}
use Rattle.spool_queue.specs.Standing.{count_of}
use Rattle.spool_queue.proofs.Links.{no_link, sends_nothing, tidied, untidied}
use Rattle.spool_queue.proofs.Settlings.{settles_none}
use Rattle.spool_queue.proofs.sending.send.Goals as goal

pub returns-in_err-tidy-clause-sends : goal.returns-in_err-tidy-clause-sends
returns-in_err-tidy-clause-sends g c =
    let p = err_from_is_err_and c.from_residual.result c.from_residual.ensures.1 in
    let met = c.in_err-tidy.ensures in
    let error = c.in_err-tidy.field-0.0 in
    let fault : error ≡ DiskFault = ⊎_elim (λ is. is) (λ closed. absurd (c.requires.open (met.closed.0 (ap (λ (e : SpoolError). Err e) closed)))) met.errors in
    let e : p.0 ≡ Spool DiskFault = cc (p.2, fault) in
    let none : count_of c.args.spool.now ≡ 0 = omega arith in
    let outcomes = g.W.Wire.outcomes c.args.wire.now in
    let S : Stop → Type 0 = λ stop. SendsAll g.D.Disk c.args.disk.now c.tidy.new.disk c.args.spool.now c.tidy.new.self outcomes outcomes (Err stop) in
    let s : SendsAll g.D.Disk c.args.disk.now c.args.disk.now c.args.spool.now c.args.spool.now outcomes outcomes (Ok tt) =
    sends_nothing g.D.Disk _ _ _ _ _ (settles_none g.D.Disk _ _ (g.met.D.Disk.only_now c.args.disk.now)) (no_link _) in
    rw (p.1) (subst S (sym e) (untidied g.D.Disk _ _ _ _ _ _ _ _ s none met.nothing_left met.each_moment met.faults_never_fall))

pub returns-then-outstanding-eq0-clause-sends : goal.returns-then-outstanding-eq0-clause-sends
returns-then-outstanding-eq0-clause-sends g c =
    let met = c.in_ok-tidy.ensures in
    let none : count_of c.args.spool.now ≡ 0 = omega arith in
    let outcomes = g.W.Wire.outcomes c.args.wire.now in
    let s : SendsAll g.D.Disk c.args.disk.now c.args.disk.now c.args.spool.now c.args.spool.now outcomes outcomes (Ok tt) =
    sends_nothing g.D.Disk _ _ _ _ _ (settles_none g.D.Disk _ _ (g.met.D.Disk.only_now c.args.disk.now)) (no_link _) in
    tidied g.D.Disk _ _ _ _ _ _ _ _ s none met.nothing_left met.open_kept met.tidied met.durable met.each_moment met.faults_never_fall

pub returns-in_err-tidy-2-clause-sends : goal.returns-in_err-tidy-2-clause-sends
returns-in_err-tidy-2-clause-sends g c =
    let p = err_from_is_err_and c.from_residual-in_err-tidy-2.result c.from_residual-in_err-tidy-2.ensures.1 in
    let sent = c.in_ok-send_linked.ensures in
    let met = c.in_err-tidy-2.ensures in
    let error = c.in_err-tidy-2.field-0.0 in
    let fault : error ≡ DiskFault = ⊎_elim (λ is. is) (λ closed. absurd (sent.still_open (met.closed.0 (ap (λ (e : SpoolError). Err e) closed)))) met.errors in
    let e : p.0 ≡ Spool DiskFault = cc (p.2, fault) in
    let S : Stop → Type 0 = λ stop. SendsAll g.D.Disk c.args.disk.now c.tidy-2.new.disk c.args.spool.now c.tidy-2.new.self (g.W.Wire.outcomes c.args.wire.now) (g.W.Wire.outcomes c.send_linked.new.wire) (Err stop) in
    rw (p.1) (subst S (sym e) (untidied g.D.Disk _ _ _ _ _ _ _ _ sent.sends sent.done met.nothing_left met.each_moment met.faults_never_fall))

pub returns-clause-sends : goal.returns-clause-sends
returns-clause-sends g c =
    let sent = c.in_ok-send_linked.ensures in
    let met = c.in_ok-tidy-2.ensures in
    tidied g.D.Disk _ _ _ _ _ _ _ _ sent.sends sent.done met.nothing_left met.open_kept met.tidied met.durable met.each_moment met.faults_never_fall

pub returns-in_err-send_linked-clause-never_bad : goal.returns-in_err-send_linked-clause-never_bad
returns-in_err-send_linked-clause-never_bad g c = λ list held at same.
    let p = err_from_is_err_and c.from_residual-in_err-send_linked.result c.from_residual-in_err-send_linked.ensures.1 in
    let stop = c.in_err-send_linked.field-0.0 in
    let bad : stop ≡ Spool (Bad at) = cc (p.1, p.2, same) in
    c.in_err-send_linked.ensures.never_bad list held at (ap (λ (s : Stop). Err s) bad)
