use Rattle.std.proofs.Common.{rules, ◌≡◌, ◌<◌, inl, inr, ℕ, ◌+◌, ◌≤◌, Bool, List, Option, Err, length, take, arith, sym, subst}
use Rattle.std.proofs.lemmas.List.{length-take, nil_from_length}
use Rattle.std.proofs.lemmas.Result.{err_from_is_err_and}
use Rattle.std.specs.Bool.{OnTrue}
use Rattle.spool_queue.specs.declared.limits.TheConstants.{TIMEOUT_MS}
use Rattle.spool_queue.specs.declared.stop.Stop.{Stop}
use Rattle.spool_queue.specs.declared.stop.Stop.TheVariants.{Unreachable}
use Rattle.spool_queue.specs.SendSoFar.{ClockGoesOn, HasGiven, SettlesWindow}
use Rattle.spool_queue.proofs.Causes.{peer_silent, piece_faulty, rose_behind}
use Rattle.spool_queue.proofs.Settlings.{settles_none}
use Rattle.spool_queue.proofs.Silences.{given_from_now, given_later, given_still, gives_on, goes_on_behind, passes, passes_in, still_told}
use Rattle.spool_queue.proofs.Talkings.{receives_closed, receives_failed, receives_nothing}
use Rattle.spool_queue.proofs.Windows.{link_ends, more_settled, none_yet, piece_ends, still_settled, window_settled}
use Rattle.spool_queue.proofs.sending.settle_window.Goals as goal

pub loop-init : goal.loop-init
loop-init g c = record {
  able = search rules;
  piece = search rules;
  awaited = c.requires.awaited;
  out = c.requires.all_is_out;
  unclosed = c.requires.open;
  settled = none_yet g.D.Disk _ _ _ _ (settles_none g.D.Disk _ _ (g.met.D.Disk.only_now c.args.disk.now));
  faults = omega arith;
  idles = omega arith;
  clock = still_told _;
  heard = given_from_now _ _ _ c.now-heard.ensures.told;
}

pub returns-then-windows_in_flight-eq0-clause-settles : goal.returns-then-windows_in_flight-eq0-clause-settles
returns-then-windows_in_flight-eq0-clause-settles g c =
    let is = c.loop.invariant in
    let none : c.loop.window.in_flight ≡ 0 = c.windows_in_flight.ensures.no_parcel_without_a_window (nil_from_length c.loop.window.flights (omega (arith, c.windows_in_flight.ensures.windows))) in
    window_settled g.D.Disk _ _ _ _ _ _ _ _ is.settled (omega (arith, none, is.awaited.begun, is.awaited.acknowledged))

pub returns-in_err-settle_heard-in-Got-clause-settles : goal.returns-in_err-settle_heard-in-Got-clause-settles
returns-in_err-settle_heard-in-Got-clause-settles g c =
    let p = err_from_is_err_and c.from_residual.result c.from_residual.ensures.1 in
    let stop = c.in_err-settle_heard-in-Got.field-0.0 in
    let e : p.0 ≡ stop = cc (p.2) in
    let S : Stop → Type 0 = λ stop. SettlesWindow g.D.Disk c.args.disk.now c.settle_heard.new.disk c.args.spool.now c.settle_heard.new.spool c.args.window.now c.settle_heard.new.window (g.L.Link.told c.args.link.now) (g.L.Link.told c.recv.new.self) (Err stop) in
    rw (p.1) (subst S (sym e) (piece_ends g.D.Disk _ _ _ _ _ _ _ _ _ _ _ _ c.recv.new.into c.in-Got.count stop c.loop.invariant.settled c.in_err-settle_heard-in-Got.ensures.settles c.in-Got.ensures.told))

pub loop-preserved-in-Got : goal.loop-preserved-in-Got
loop-preserved-in-Got g c =
    let into = c.recv.new.into in
    let n = c.in-Got.count in
    let within = c.in-Got.ensures.within_the_buffer in
    let heard = c.in_ok-settle_heard-in-Got.ensures.settles in
    let some : 0 < length (take n into) = omega (arith, within.0, within.1, length-take n into, c.recv.auto.into) in
    record {
      able = search rules;
      piece = search rules;
      awaited = c.in_ok-settle_heard-in-Got.ensures.awaited;
      out = c.settle_heard.ensures.all_is_out;
      unclosed = heard.settles.still_open (heard.exact (λ same. absurd cc)) c.loop.invariant.unclosed;
      settled = more_settled g.D.Disk _ _ _ _ _ _ _ _ _ _ _ _ into n some c.loop.invariant.settled c.in_ok-settle_heard-in-Got.ensures.settles c.in-Got.ensures.told;
      faults = search rules;
      idles = search rules;
      clock = goes_on_behind _ _ _ c.loop.invariant.clock (gives_on _ _ _ c.now-heard-in-Got.ensures.told);
      heard = given_later _ _ _ _ c.loop.invariant.clock c.now-heard-in-Got.ensures.told;
    }

pub loop-preserved : goal.loop-preserved
loop-preserved g c = record {
  able = search rules;
  piece = search rules;
  awaited = c.loop.invariant.awaited;
  out = c.loop.invariant.out;
  unclosed = c.loop.invariant.unclosed;
  settled = still_settled g.D.Disk _ _ _ _ _ _ _ _ _ c.recv.new.into c.loop.invariant.settled c.in-NotYet.ensures.told;
  faults = search rules;
  idles = search rules;
  clock = let C : Option (List ℕ) → Type 0 = λ o. ClockGoesOn (g.K.Clock.moments c.now-heard.new.self) o in
      subst C (sym c.pause.ensures.moments_kept) (goes_on_behind _ _ _ c.loop.invariant.clock (gives_on _ _ _ c.now.ensures.told));
  heard = let H : Option (List ℕ) → Type 0 = λ o. HasGiven (g.K.Clock.moments c.now-heard.new.self) o c.loop.heard.0 in
      subst H (sym c.pause.ensures.moments_kept) (given_still _ _ _ _ c.loop.invariant.heard (gives_on _ _ _ c.now.ensures.told));
}

pub returns-then-is_over-clause-settles : goal.returns-then-is_over-clause-settles
returns-then-is_over-clause-settles g c =
    link_ends g.D.Disk _ _ _ _ _ _ _ _ _ c.loop.invariant.settled c.loop.invariant.awaited.acknowledged (λ began pieces has. receives_nothing began _ _ pieces c.recv.new.into has c.in-NotYet.ensures.told)

pub returns-in-Closed-clause-settles : goal.returns-in-Closed-clause-settles
returns-in-Closed-clause-settles g c =
    link_ends g.D.Disk _ _ _ _ _ _ _ _ _ c.loop.invariant.settled c.loop.invariant.awaited.acknowledged (λ began pieces has. receives_closed began _ _ pieces c.recv.new.into has c.in-Closed.ensures.told)

pub returns-in-Failed-clause-settles : goal.returns-in-Failed-clause-settles
returns-in-Failed-clause-settles g c =
    link_ends g.D.Disk _ _ _ _ _ _ _ _ _ c.loop.invariant.settled c.loop.invariant.awaited.acknowledged (λ began pieces has. receives_failed began _ _ pieces c.recv.new.into has c.in-Failed.ensures.told)

pub returns-in_err-settle_heard-in-Got-clause-unreachable : goal.returns-in_err-settle_heard-in-Got-clause-unreachable
returns-in_err-settle_heard-in-Got-clause-unreachable g c = λ same began e talks.
    let p = err_from_is_err_and c.from_residual.result c.from_residual.ensures.1 in
    let stop = c.in_err-settle_heard-in-Got.field-0.0 in
    let lost : stop ≡ Unreachable = cc (p.1, p.2, same) in
    inr (inl (piece_faulty g.D.Disk _ _ _ _ _ _ _ _ _ _ _ _ c.recv.new.into c.in-Got.count stop c.loop.invariant.settled c.in_err-settle_heard-in-Got.ensures.settles c.in-Got.ensures.told lost began e talks))

pub returns-then-is_over-clause-unreachable : goal.returns-then-is_over-clause-unreachable
returns-then-is_over-clause-unreachable g c = λ same began e talks.
    let is = c.loop.invariant in
    let flying : 0 < length c.loop.window.flights = omega arith in
    let unanswered = peer_silent g.D.Disk _ _ _ _ _ c.loop.window _ _ _ c.recv.new.into is.settled is.out flying c.in-NotYet.ensures.told began e talks in
    let over : Bool → Type 0 = λ b. OnTrue b (c.loop.heard.0 + TIMEOUT_MS ≤ c.now.result.0) in
    let passed = passes _ _ _ _ _ is.heard c.now.ensures.told (subst over c.if-is_over.true c.is_over.ensures.over) in
    inr (inr (rose_behind _ _ _ is.idles (c.in-NotYet.ensures.not_yet_only_where_idles_rose tt), (unanswered, passes_in _ _ _ (gives_on _ _ _ c.now-heard.ensures.told) passed)))

pub returns-in-Closed-clause-unreachable : goal.returns-in-Closed-clause-unreachable
returns-in-Closed-clause-unreachable g c = λ same began e talks. inl (rose_behind _ _ _ c.loop.invariant.faults (c.in-Closed.ensures.ended_only_where_faults_rose tt))

pub returns-in-Failed-clause-unreachable : goal.returns-in-Failed-clause-unreachable
returns-in-Failed-clause-unreachable g c = λ same began e talks. inl (rose_behind _ _ _ c.loop.invariant.faults (c.in-Failed.ensures.ended_only_where_faults_rose tt))
