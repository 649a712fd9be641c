use Rattle.std.proofs.Common.{◌≡◌, ◌∷◌, [], ℕ, List, sym, subst}
use Rattle.std.proofs.lemmas.Result.{err_from_is_err_and}
use Rattle.spool_queue.specs.declared.spool_error.SpoolError.{SpoolError}
use Rattle.spool_queue.specs.PutSoFar.{PutsLines, StopsIn}
use Rattle.spool_queue.proofs.Puttings.{crash_in_one, holds_after, puts_line, stops_at_line, stops_in_line, takes_byte}
use Rattle.spool_queue.proofs.putting.put_byte.Goals as goal

pub returns-in_err-put-clause-stops : goal.returns-in_err-put-clause-stops
returns-in_err-put-clause-stops g c =
    let p = err_from_is_err_and c.from_residual.result c.from_residual.ensures.1 in
    let error = c.in_err-put.field-0.0 in
    let line = c.deref.result.now in
    let e : p.0 ≡ error = cc (p.2) in
    let S : SpoolError → Type 0 = λ e. StopsIn g.D.Disk c.args.disk.now c.put.new.disk c.args.spool.now c.put.new.self c.args.line.now.items (c.args.byte ∷ []) e in
    let L : List ℕ → Type 0 = λ l. StopsIn g.D.Disk c.args.disk.now c.put.new.disk c.args.spool.now c.put.new.self l (c.args.byte ∷ []) error in
    let met = c.in_err-put.ensures in
    rw (p.1) (subst S (sym e) (subst L c.deref.ensures.value
    (stops_at_line g.D.Disk c.args.disk.now c.put.new.disk c.args.spool.now c.put.new.self line c.args.byte error c.if-byte-eq10.true met.count_kept (λ is. met.closed.0 cc) (λ is. (met.too_long.0 cc).1) (λ is. let full = met.full.0 cc in (full.1, full.2))
    (λ at is. met.never_bad at cc) (λ not. met.spool_kept (λ same. not cc)) (λ not. met.disk_kept (λ same. not cc))
    (crash_in_one g.D.Disk c.args.disk.now c.put.new.disk c.args.spool.now line met.each_moment) (λ is. met.disk_fault_only_where_faults_rose cc) met.faults_never_fall)))

pub returns-in_err-push-clause-stops : goal.returns-in_err-push-clause-stops
returns-in_err-push-clause-stops g c =
    let p = err_from_is_err_and c.from_residual-in_err-push.result c.from_residual-in_err-push.ensures.1 in
    let S : SpoolError → Type 0 = λ e. StopsIn g.D.Disk c.args.disk.now c.args.disk.now c.args.spool.now c.args.spool.now c.args.line.now.items (c.args.byte ∷ []) e in
    rw (p.1) (subst S (sym p.2) (stops_in_line g.D.Disk c.args.disk.now c.args.spool.now c.args.line.now.items c.args.byte c.if-byte-eq10.false (g.met.D.Disk.only_now c.args.disk.now)))

pub returns-in_ok-put-clause-puts : goal.returns-in_ok-put-clause-puts
returns-in_ok-put-clause-puts g c =
    let line = c.deref.result.now in
    let L : List ℕ → Type 0 = λ l. PutsLines g.D.Disk c.args.disk.now c.put.new.disk c.args.spool.now c.put.new.self l (c.args.byte ∷ []) c.clear.new.self.items in
    let met = c.in_ok-put.ensures in
    subst L c.deref.ensures.value
    (puts_line g.D.Disk c.args.disk.now c.put.new.disk c.args.spool.now c.put.new.self line c.clear.new.self.items c.args.byte c.if-byte-eq10.true c.clear.ensures.items met.one_more met.short met.reserves met.room met.open_kept
    (holds_after g.D.Disk (g.D.Disk.contents c.args.disk.now) (g.D.Disk.contents c.put.new.disk) c.args.spool.now c.put.new.self line met.put) met.durable
    (crash_in_one g.D.Disk c.args.disk.now c.put.new.disk c.args.spool.now line met.each_moment) met.faults_never_fall)

pub returns-in_ok-push-clause-puts : goal.returns-in_ok-push-clause-puts
returns-in_ok-push-clause-puts g c =
    takes_byte g.D.Disk c.args.disk.now c.args.spool.now c.args.line.now.items c.push.new.self.items c.args.byte c.if-byte-eq10.false c.in_ok-push.ensures.items (g.met.D.Disk.only_now c.args.disk.now)
