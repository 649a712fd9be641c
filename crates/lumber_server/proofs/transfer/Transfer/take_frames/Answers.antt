use Rattle.std.proofs.Common.{arith, refl, rules, ◌∙◌}
use Rattle.std.proofs.lemmas.Result.{err_from_is_err_and}
use Rattle.lumber_server.proofs.Moving.{fails_further, stays}
use Rattle.lumber_server.proofs.Taking.{all_left, frames_taken, left_then, next_taken}
use Rattle.lumber_server.proofs.transfer.Transfer.take_frames.Goals as goal

pub loop-used-init : goal.loop-used-init
loop-used-init g c = record {
  left = all_left _;
  goes_on = stays _ _;
  link_faults = omega arith;
  idles = omega arith;
  failed_sends = refl;
  faults = omega arith;
}

pub returns-in_err-used-clause-fails : goal.returns-in_err-used-clause-fails
returns-in_err-used-clause-fails g c =
    let p = err_from_is_err_and c.from_residual.result c.from_residual.ensures.1 in
    rw p.1 (fails_further _ _ _ _ _ c.loop-used.invariant.goes_on c.in_err-used.ensures.fails)

pub loop-used-preserved : goal.loop-used-preserved
loop-used-preserved g c =
    let taken = c.in_ok-used.ensures.taken in
    let next = rw c.in-Some.is at taken in
    record {
      left = left_then c.args.bytes.now c.loop-used.left.now c.in-Some.used _ next.within (omega arith) c.loop-used.invariant.left;
      goes_on = next_taken _ _ _ c.args.self.now c.loop-used.self c.take_next.new.self c.args.bytes.now c.loop-used.left.now c.in-Some.used _ c.loop-used.invariant.goes_on next (omega arith);
      link_faults = search rules;
      idles = search rules;
      failed_sends = c.in_ok-used.ensures.no_failed_send ∙ c.loop-used.invariant.failed_sends;
      faults = search rules;
    }

pub returns-clause-taken : goal.returns-clause-taken
returns-clause-taken g c = frames_taken _ _ _ _ _ _ _ _ c.loop-used.invariant.left c.loop-used.invariant.goes_on (rw c.in_default.is at c.in_ok-used.ensures.taken)
