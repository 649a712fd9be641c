use Rattle.std.proofs.Common.{◌≡◌, rules, Err, arith, sym, subst}
use Rattle.std.proofs.lemmas.Result.{err_from_is_err_and}
use Rattle.spool_queue.specs.declared.stop.Stop.{Stop}
use Rattle.spool_queue.specs.declared.stop.Stop.TheVariants.{Spool}
use Rattle.spool_queue.specs.PutSoFar.{PutsAll}
use Rattle.spool_queue.proofs.PutReadings.{begins, puts_all, puts_till_fault, puts_till_stop, reads_on}
use Rattle.spool_queue.proofs.putting.put_lines.Goals as goal

pub loop-init : goal.loop-init
loop-init g c = record {
  able = search rules;
  piece = search rules;
  put = begins g.D.Disk _ _ _ _ c.new-line.ensures.items (g.met.D.Disk.only_now c.args.disk.now);
  faults = search rules;
}

pub returns-in-Ok-eq0-clause-puts : goal.returns-in-Ok-eq0-clause-puts
returns-in-Ok-eq0-clause-puts g c =
    puts_all g.D.Disk _ _ _ _ _ c.read.new.into c.in-Ok-eq0.field-0 _ _ _ (omega (arith, c.loop.invariant.piece, c.read.auto.into)) (omega arith) c.loop.invariant.put c.in-Ok-eq0.ensures.told

pub loop-preserved : goal.loop-preserved
loop-preserved g c = record {
  able = search rules;
  piece = search rules;
  put = reads_on g.D.Disk _ _ _ _ _ _ _ _ c.read.new.into c.in-Ok.count _ _ _ c.loop.invariant.put c.in-Ok.ensures.told c.in_ok-put_piece-in-Ok.ensures.puts;
  faults = search rules;
}

pub returns-in_err-put_piece-in-Ok-clause-puts : goal.returns-in_err-put_piece-in-Ok-clause-puts
returns-in_err-put_piece-in-Ok-clause-puts g c =
    let p = err_from_is_err_and c.from_residual.result c.from_residual.ensures.1 in
    let error = c.in_err-put_piece-in-Ok.field-0.0 in
    let e : p.0 ≡ Spool error = cc (p.2) in
    let S : Stop → Type 0 = λ stop. PutsAll g.D.Disk c.args.disk.now c.put_piece.new.disk c.args.spool.now c.put_piece.new.spool (g.R.Source.left c.args.source.now) (Err stop) in
    rw (p.1) (subst S (sym e) (puts_till_stop g.D.Disk _ _ _ _ _ _ _ c.read.new.into c.in-Ok.count _ _ _ error c.requires.open c.loop.invariant.put c.in-Ok.ensures.told c.in_err-put_piece-in-Ok.ensures.stops))

pub returns-in-Err-clause-puts : goal.returns-in-Err-clause-puts
returns-in-Err-clause-puts g c = puts_till_fault g.D.Disk _ _ _ _ _ _ _ c.loop.invariant.put
