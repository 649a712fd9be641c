use Rattle.std.proofs.Common.{rules, ◌≡◌, inl, Err, arith, sym, ap, subst, ◌∙◌}
use Rattle.std.proofs.lemmas.Result.{err_from_is_err_and}
use Rattle.spool_queue.specs.declared.stop.Stop.{Stop}
use Rattle.spool_queue.specs.declared.stop.Stop.TheVariants.{Unreachable, Spool as AtSpool}
use Rattle.spool_queue.specs.declared.spool_error.SpoolError.TheVariants.{Bad}
use Rattle.spool_queue.specs.SendSoFar.{IsReadStop, IsSendingStop, IsSettlingStop, SendsOver}
use Rattle.spool_queue.proofs.Causes.{lost_behind, read_sends, rose_behind, settling_sends}
use Rattle.spool_queue.proofs.Overs.{filled_well, fills, goes_on, none_sent, out_ends, over_ends, over_nothing, over_unfilled, sends, window_ends}
use Rattle.spool_queue.proofs.Settlings.{settles_none}
use Rattle.spool_queue.proofs.Silences.{goes_on_behind, passes_in, still_told}
use Rattle.spool_queue.proofs.sending.send_over.Goals as goal

pub loop-init : goal.loop-init
loop-init g c = record {
  able = search rules;
  unclosed = c.requires.open;
  idle = search rules;
  sent = none_sent g.D.Disk _ _ _ _ c.start-walk.result (settles_none g.D.Disk _ _ (g.met.D.Disk.only_now c.args.disk.now)) c.in_ok-window.ensures.stands c.requires.fresh c.start-walk.ensures.place c.start-walk.ensures.events c.start-walk.ensures.settled;
  faults = omega arith;
  idles = omega arith;
  clock = still_told _;
}

pub returns-then-outstanding-eq0-clause-sends : goal.returns-then-outstanding-eq0-clause-sends
returns-then-outstanding-eq0-clause-sends g c = over_ends g.D.Disk _ _ _ _ c.loop.window _ _ c.loop.walk _ c.loop.invariant.sent c.loop.invariant.idle.acknowledged

pub returns-in_err-window-clause-sends : goal.returns-in_err-window-clause-sends
returns-in_err-window-clause-sends g c =
    let p = err_from_is_err_and c.from_residual.result c.from_residual.ensures.1 in
    rw (p.1) (over_nothing g.D.Disk _ _ _ p.0 (settles_none g.D.Disk _ _ (g.met.D.Disk.only_now c.args.disk.now)) c.requires.fresh)

pub returns-in_err-fill-clause-sends : goal.returns-in_err-fill-clause-sends
returns-in_err-fill-clause-sends g c =
    let p = err_from_is_err_and c.from_residual-in_err-fill.result c.from_residual-in_err-fill.ensures.1 in
    rw (p.1) (over_unfilled g.D.Disk _ _ _ _ _ c.loop.window _ _ c.loop.walk p.0 c.loop.invariant.sent c.loop.invariant.idle.acknowledged c.fill.ensures.only_read)

pub returns-in_err-send_out-clause-sends : goal.returns-in_err-send_out-clause-sends
returns-in_err-send_out-clause-sends g c =
    let p = err_from_is_err_and c.from_residual-in_err-send_out.result c.from_residual-in_err-send_out.ensures.1 in
    let f = fills g.D.Disk _ _ _ _ _ c.loop.window c.fill.new.window _ _ c.loop.walk c.fill.new.walk c.loop.invariant.sent c.fill.ensures.only_read c.in_ok-fill.ensures.talks c.in_ok-fill.ensures.first in
    let o = sends g.D.Disk _ _ _ _ c.fill.new.window c.send_out.new.window _ _ _ c.fill.new.walk f c.send_out.ensures.parcels (c.send_out.ensures.goes_out (g.L.Link.told c.args.link.now)) in
    rw (p.1) (out_ends g.D.Disk _ _ _ _ c.send_out.new.window _ _ c.fill.new.walk p.0 o (c.send_out.ensures.acknowledged ∙ c.in_ok-fill.ensures.begun.acknowledged))

pub loop-preserved : goal.loop-preserved
loop-preserved g c =
    let f = fills g.D.Disk _ _ _ _ _ c.loop.window c.fill.new.window _ _ c.loop.walk c.fill.new.walk c.loop.invariant.sent c.fill.ensures.only_read c.in_ok-fill.ensures.talks c.in_ok-fill.ensures.first in
    let o = sends g.D.Disk _ _ _ _ c.fill.new.window c.send_out.new.window _ _ _ c.fill.new.walk f c.send_out.ensures.parcels (c.send_out.ensures.goes_out (g.L.Link.told c.args.link.now)) in
    let s = c.in_ok-settle_window.ensures.settles in
    record {
      able = search rules;
      unclosed = s.settles.still_open (s.exact (λ same. absurd cc)) c.loop.invariant.unclosed;
      idle = c.in_ok-settle_window.ensures.idle;
      sent = goes_on g.D.Disk _ _ _ _ _ _ _ _ _ _ _ c.fill.new.walk o s;
      faults = omega (arith, c.loop.invariant.faults, c.send_out.ensures.link_faults_never_fall, c.settle_window.ensures.link_faults_never_fall);
      idles = omega (arith, c.loop.invariant.idles, c.send_out.ensures.link_idles_never_fall, c.settle_window.ensures.link_idles_never_fall);
      clock = goes_on_behind _ _ _ c.loop.invariant.clock c.settle_window.ensures.clock_goes_on;
    }

pub returns-in_err-settle_window-clause-sends : goal.returns-in_err-settle_window-clause-sends
returns-in_err-settle_window-clause-sends g c =
    let p = err_from_is_err_and c.from_residual-in_err-settle_window.result c.from_residual-in_err-settle_window.ensures.1 in
    let stop = c.in_err-settle_window.field-0.0 in
    let e : p.0 ≡ stop = cc (p.2) in
    let S : Stop → Type 0 = λ stop. SendsOver g.D.Disk c.args.disk.now c.settle_window.new.disk c.args.spool.now c.settle_window.new.spool (g.L.Link.told c.args.link.now) (g.L.Link.told c.settle_window.new.link) (Err stop) in
    let f = fills g.D.Disk _ _ _ _ _ c.loop.window c.fill.new.window _ _ c.loop.walk c.fill.new.walk c.loop.invariant.sent c.fill.ensures.only_read c.in_ok-fill.ensures.talks c.in_ok-fill.ensures.first in
    let o = sends g.D.Disk _ _ _ _ c.fill.new.window c.send_out.new.window _ _ _ c.fill.new.walk f c.send_out.ensures.parcels (c.send_out.ensures.goes_out (g.L.Link.told c.args.link.now)) in
    rw (p.1) (subst S (sym e) (window_ends g.D.Disk _ _ _ _ _ _ _ _ _ _ _ c.fill.new.walk stop o c.in_err-settle_window.ensures.settles))

pub returns-in_err-fill-clause-stops : goal.returns-in_err-fill-clause-stops
returns-in_err-fill-clause-stops g c =
    let p = err_from_is_err_and c.from_residual-in_err-fill.result c.from_residual-in_err-fill.ensures.1 in
    let stop = c.in_err-fill.field-0.0 in
    let e : p.0 ≡ stop = cc (p.2) in
    let S : Stop → Type 0 = λ stop. IsSendingStop (g.D.Disk.faults c.args.disk.now) (g.D.Disk.faults c.fill.new.disk) stop in
    rw (p.1) (subst S (sym e) (read_sends _ _ _ stop c.loop.invariant.sent.settles.faults c.in_err-fill.ensures.errors))

pub returns-in_err-fill-clause-never_bad : goal.returns-in_err-fill-clause-never_bad
returns-in_err-fill-clause-never_bad g c = λ list held at same.
    let p = err_from_is_err_and c.from_residual-in_err-fill.result c.from_residual-in_err-fill.ensures.1 in
    let stop = c.in_err-fill.field-0.0 in
    let bad : stop ≡ AtSpool (Bad at) = cc (p.1, p.2, same) in
    filled_well g.D.Disk _ _ _ _ _ _ _ c.loop.walk _ c.loop.invariant.sent (λ bytes list log told is walked. c.in_err-fill.ensures.never_bad bytes list log told is walked at) list held (ap (λ (s : Stop). Err s) bad)

pub returns-in_err-fill-clause-unreachable : goal.returns-in_err-fill-clause-unreachable
returns-in_err-fill-clause-unreachable g c = λ same.
    let p = err_from_is_err_and c.from_residual-in_err-fill.result c.from_residual-in_err-fill.ensures.1 in
    let stop = c.in_err-fill.field-0.0 in
    let lost : stop ≡ Unreachable = cc (p.1, p.2, same) in
    let S : Stop → Type 0 = λ stop. IsReadStop (g.D.Disk.faults c.loop.disk) (g.D.Disk.faults c.fill.new.disk) stop in
    absurd (subst S lost c.in_err-fill.ensures.errors)

pub returns-in_err-send_out-clause-unreachable : goal.returns-in_err-send_out-clause-unreachable
returns-in_err-send_out-clause-unreachable g c = λ same. inl (rose_behind _ _ _ c.loop.invariant.faults c.in_err-send_out.ensures.unreachable.1)

pub returns-in_err-settle_window-clause-stops : goal.returns-in_err-settle_window-clause-stops
returns-in_err-settle_window-clause-stops g c =
    let p = err_from_is_err_and c.from_residual-in_err-settle_window.result c.from_residual-in_err-settle_window.ensures.1 in
    let stop = c.in_err-settle_window.field-0.0 in
    let e : p.0 ≡ stop = cc (p.2) in
    let S : Stop → Type 0 = λ stop. IsSendingStop (g.D.Disk.faults c.args.disk.now) (g.D.Disk.faults c.settle_window.new.disk) stop in
    rw (p.1) (subst S (sym e) (settling_sends _ _ _ stop (omega (arith, c.loop.invariant.sent.settles.faults, c.fill.ensures.only_read.faults_kept)) c.in_err-settle_window.ensures.stops))

pub returns-in_err-settle_window-clause-never_bad : goal.returns-in_err-settle_window-clause-never_bad
returns-in_err-settle_window-clause-never_bad g c = λ list held at same.
    let p = err_from_is_err_and c.from_residual-in_err-settle_window.result c.from_residual-in_err-settle_window.ensures.1 in
    let stop = c.in_err-settle_window.field-0.0 in
    let bad : stop ≡ AtSpool (Bad at) = cc (p.1, p.2, same) in
    let S : Stop → Type 0 = λ stop. IsSettlingStop (g.D.Disk.faults c.fill.new.disk) (g.D.Disk.faults c.settle_window.new.disk) stop in
    subst S bad c.in_err-settle_window.ensures.stops

pub returns-in_err-settle_window-clause-unreachable : goal.returns-in_err-settle_window-clause-unreachable
returns-in_err-settle_window-clause-unreachable g c = λ same.
    let p = err_from_is_err_and c.from_residual-in_err-settle_window.result c.from_residual-in_err-settle_window.ensures.1 in
    let stop = c.in_err-settle_window.field-0.0 in
    let lost : stop ≡ Unreachable = cc (p.1, p.2, same) in
    let f = fills g.D.Disk _ _ _ _ _ c.loop.window c.fill.new.window _ _ c.loop.walk c.fill.new.walk c.loop.invariant.sent c.fill.ensures.only_read c.in_ok-fill.ensures.talks c.in_ok-fill.ensures.first in
    let o = sends g.D.Disk _ _ _ _ c.fill.new.window c.send_out.new.window _ _ _ c.fill.new.walk f c.send_out.ensures.parcels (c.send_out.ensures.goes_out (g.L.Link.told c.args.link.now)) in
    lost_behind _ _ _ _ _ _ _ _ _ (omega (arith, c.loop.invariant.faults, c.send_out.ensures.link_faults_never_fall)) (omega (arith, c.loop.invariant.idles, c.send_out.ensures.link_idles_never_fall))
    (λ (unanswered, passed). (unanswered, passes_in _ _ _ c.loop.invariant.clock passed))
    (c.in_err-settle_window.ensures.unreachable (ap (λ (s : Stop). Err s) lost) (g.L.Link.told c.args.link.now) o.e o.talks)
