use Rattle.std.proofs.Common.{◌≡◌, length, ap, ◌∙◌}
use Rattle.batch_worker.specs.Held.{settled_in}
use Rattle.batch_worker.specs.Keeping.{failures_since}
use Rattle.batch_worker.specs.Receiving.{outs_kept}
use Rattle.batch_worker.proofs.Hearing.{failures_are}
use Rattle.batch_worker.proofs.worker.Worker.hear.Goals as goal

pub returns-in-Some : goal.returns-in-Some
returns-in-Some g c =
    let w = c.self.inside in
    let v = c.feed-fault.new.window in
    let fed = c.in-Some.ensures in
    let failures : c.failures_since-self-inside.result ≡ failures_since (settled_in v) w.failures = c.failures_since-self-inside.ensures ∙ failures_are v c.has_settled.result w.failures c.has_settled.ensures.some c.has_settled.ensures.are_held in
    rw (← c.self.view_is) (record {
      window = v;
      kept = fed.kept;
      more = fed.no_fewer_acknowledged;
      failed = fed.failed;
      fed = fed.fed;
      is = λ k. record {
        host = w.host;
        timeout = w.timeout;
        take = w.take;
        post = w.post;
        link = w.link;
        window = c.again.ensures.again k;
        refused = w.refused;
        failures = failures k;
        failed = w.failed;
        outs = c.clear.ensures.items k;
        heard = c.args.now;
      };
    })

pub returns-in-None : goal.returns-in-None
returns-in-None g c =
    let w = c.self.inside in
    let v = c.feed-fault.new.window in
    let fed = c.in-None.ensures in
    let failures : c.failures_since-self-inside.result ≡ failures_since (settled_in v) w.failures = c.failures_since-self-inside.ensures ∙ failures_are v c.has_settled.result w.failures c.has_settled.ensures.some c.has_settled.ensures.are_held in
    let outs : c.forget_oldest.new.outs.items ≡ outs_kept w.outs.items (length v.flights) = c.forget_oldest.ensures.kept ∙ ap (outs_kept w.outs.items) c.windows_in_flight.ensures.windows in
    rw (← c.self.view_is) (record {
      window = v;
      kept = fed.kept;
      more = fed.no_fewer_acknowledged;
      failed = fed.failed;
      fed = fed.fed;
      is = λ k. record {
        host = w.host;
        timeout = w.timeout;
        take = w.take;
        post = w.post;
        link = w.link;
        window = v;
        refused = w.refused;
        failures = failures k;
        failed = w.failed;
        outs = outs k;
        heard = c.args.now;
      };
    })
