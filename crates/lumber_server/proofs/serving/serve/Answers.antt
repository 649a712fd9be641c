use Rattle.std.proofs.Common.{arith, inr, refl, rules}
use Rattle.lumber_server.proofs.SoFar.{asked_once, serves_nothing, serves_so, so_far_at_first, so_far_more}
use Rattle.lumber_server.proofs.Turning.{settled_end, unmoved}
use Rattle.lumber_server.proofs.serving.serve.Goals as goal

pub returns-in_default-clause-serves : goal.returns-in_default-clause-serves
returns-in_default-clause-serves g c = serves_nothing _ _ _

pub loop-init : goal.loop-init
loop-init g c = record {
  goes_on = tt;
  ends = tt;
  so_far = so_far_at_first _ _ _ _ c.in-Ok.ensures;
  link_faults = omega arith;
  failed_sends = omega arith;
  sink_faults = omega arith;
  rings = omega arith;
}

pub returns-then-asked-clause-serves : goal.returns-then-asked-clause-serves
returns-then-asked-clause-serves g c =
    let was = c.loop.invariant.so_far in
    serves_so _ _ _ _ _ _ _ _ _ _ _ was (asked_once _ _ c.asked.ensures.asked) (omega arith) (settled_end _ _ _ _ (inr refl) was.settled (unmoved _ _ refl refl))

pub returns-in-Some-turn-clause-serves : goal.returns-in-Some-turn-clause-serves
returns-in-Some-turn-clause-serves g c =
    let turned = c.turn.ensures.turned in
    serves_so _ _ _ _ _ _ _ _ _ _ _ c.loop.invariant.so_far (asked_once _ _ c.asked.ensures.asked) c.turn.ensures.idles_never_fall (rw c.in-Some-turn.is at turned)

pub loop-preserved : goal.loop-preserved
loop-preserved g c =
    let turned = c.turn.ensures.turned in
    record {
      goes_on = tt;
      ends = tt;
      so_far = so_far_more _ _ _ _ _ _ _ _ _ _ _ c.loop.invariant.so_far c.asked.ensures.asked c.turn.ensures.idles_never_fall (rw c.in_default-turn.is at turned);
      link_faults = search rules;
      failed_sends = search rules;
      sink_faults = search rules;
      rings = search rules;
    }
