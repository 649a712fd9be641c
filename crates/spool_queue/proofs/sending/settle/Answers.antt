use Rattle.std.proofs.Common.{◌≡◌, Result, Err, arith, ap, ⊎_elim}
use Rattle.std.proofs.lemmas.Result.{err_from_is_err_and}
use Rattle.spool_queue.specs.declared.spool_error.SpoolError.{SpoolError}
use Rattle.spool_queue.specs.declared.spool_error.SpoolError.TheVariants.{DiskFault}
use Rattle.spool_queue.specs.declared.stop.Stop.TheVariants.{Spool}
use Rattle.spool_queue.proofs.Settlings.{crash_in_settling, settles_failed}
use Rattle.spool_queue.proofs.sending.settle.Goals as goal

abbrev failed : SpoolError → Result Unit SpoolError
failed error = Err error

pub returns-in_err-settle-clause-fails : goal.returns-in_err-settle-clause-fails
returns-in_err-settle-clause-fails g c =
    let p = err_from_is_err_and c.from_residual.result c.from_residual.ensures.1 in
    let met = c.in_err-settle.ensures in
    let error = c.in_err-settle.field-0.0 in
    let fault : error ≡ DiskFault = ⊎_elim (λ is. is) (λ closed. absurd (c.requires.open (met.closed.0 (ap (λ (e : SpoolError). failed e) closed)))) met.errors in
    let e : p.0 ≡ Spool DiskFault = cc (p.2, fault) in
    let all : c.hand_out_settled-count.result ≡ c.args.window.now.acknowledged = c.hand_out_settled-count.ensures.count in
    rw (p.1) (
      e,
      met.disk_fault_only_where_faults_rose (ap (λ (e : SpoolError). failed e) fault),
      settles_failed g.D.Disk _ _ _ _ c.hand_out_settled-count.result c.args.window.now.acknowledged all c.if-count-gt0.true met.count_kept (crash_in_settling g.D.Disk _ _ _ c.hand_out_settled-count.result c.settle.ensures.each_moment) c.settle.ensures.faults_never_fall,
      omega (arith, all, c.if-count-gt0.true),
    )
