use Rattle.std.proofs.Common.{rules, ◌≡◌, ℕ, Err, length, take, arith, sym, ap, ◌∙◌}
use Rattle.std.proofs.lemmas.Result.{err_from_is_err_and}
use Rattle.lumber_client.specs.Exchange.{payloads_of}
use Rattle.lumber_client.specs.Held.{Held, next_in}
use Rattle.spool_queue.specs.declared.spool_error.SpoolError.{SpoolError}
use Rattle.spool_queue.specs.declared.spool_error.SpoolError.TheVariants.{Bad}
use Rattle.spool_queue.proofs.Fillings.{begun_with, filled_more, next_all, none_filled}
use Rattle.spool_queue.proofs.OnlyReads.{both, no_call}
use Rattle.spool_queue.proofs.sending.fill.Goals as goal

pub payloads-init : goal.payloads-init
payloads-init g c = record {
  filled = search rules;
  talks = λ began told e t. t;
  only_read = no_call g.D.Disk.contents g.D.Disk.images g.D.Disk.moment g.D.Disk.images_since g.D.Disk.faults _ (g.met.D.Disk.only_now c.args.disk.now);
  first = λ bytes list log told is walked. (none_filled c.args.window.now list c.requires.idle.parcels, (log, walked));
}

pub payloads-preserved : goal.payloads-preserved
payloads-preserved g c =
    let is = c.payloads.invariant in
    record {
      filled = search rules;
      talks = λ began told e t. let u = is.talks began told e t in record { stands = c.offer.ensures.stands e u.stands; pieces = u.pieces; first = u.first };
      only_read = both g.D.Disk.contents g.D.Disk.images g.D.Disk.moment g.D.Disk.images_since g.D.Disk.faults _ _ _ is.only_read c.in_ok-payload.ensures.only_read;
      first = λ bytes list log told held walked.
          let so = is.first bytes list log told held walked in
          let got = c.in_ok-payload.ensures.payload bytes list so.1.0 (is.only_read.contents_kept ∙ told) held so.1.1 in
          (filled_more list c.payloads.window c.offer.new.self c.parcel.result c.in_ok-payload.payload c.payloads.i (ap (λ (w : Held). w.parcels) c.offer.ensures.offered) c.parcel.ensures.payload so.0 got.0, (got.1.0, got.1.1));
    }

pub returns-in_err-payload-clause-never_bad : goal.returns-in_err-payload-clause-never_bad
returns-in_err-payload-clause-never_bad g c = λ bytes list log told held walked at same.
    let is = c.payloads.invariant in
    let p = err_from_is_err_and c.from_residual.result c.from_residual.ensures.1 in
    let error = c.in_err-payload.field-0.0 in
    let bad : error ≡ Bad at = cc (p.1, p.2, same) in
    let so = is.first bytes list log told held walked in
    c.in_err-payload.ensures.never_bad bytes list so.1.0 (is.only_read.contents_kept ∙ told) held so.1.1 at (ap (λ (e : SpoolError). Err e) bad)

pub returns-clause-talks : goal.returns-clause-talks
returns-clause-talks g c = λ began told e t.
    let is = c.payloads.invariant in
    let u = is.talks began told e t in
    let all : next_in c.payloads.window ≡ c.payloads.window.parcels = next_all c.payloads.window c.payloads.i is.filled (omega arith) in
    let same : c.begin.new.self.parcels ≡ c.payloads.window.parcels = ap (λ (w : Held). w.parcels) c.begin.ensures.begun in
    record { stands = begun_with c.payloads.window c.begin.new.self e all same (c.begin.ensures.stands e u.stands); pieces = u.pieces; first = u.first }

pub returns-clause-first : goal.returns-clause-first
returns-clause-first g c = λ bytes list log told held walked.
    let is = c.payloads.invariant in
    let so = is.first bytes list log told held walked in
    let same : c.begin.new.self.parcels ≡ c.payloads.window.parcels = ap (λ (w : Held). w.parcels) c.begin.ensures.begun in
    let sized : length c.begin.new.self.parcels ≡ c.payloads.i = omega (arith, ap length same, is.filled.held) in
    record { first = ap payloads_of same ∙ so.0 ∙ ap (λ (n : ℕ). take n list) (sym sized); log = so.1.0; walked = so.1.1 }
