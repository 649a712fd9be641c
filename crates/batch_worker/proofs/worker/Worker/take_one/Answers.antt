use Rattle.std.proofs.Common.{◌≡◌, Some, Option, [], ◌∷◌, ap, sym, ◌∙◌}
use Rattle.mem_queue.specs.Entries.{entry}
use Rattle.mem_queue.specs.Known.{Known}
use Rattle.batch_worker.specs.Keeping.{with_taken}
use Rattle.batch_worker.proofs.worker.Worker.take_one.Goals as goal

pub returns-clause-taken : goal.returns-clause-taken
returns-clause-taken g c =
    let w = c.self.inside in
    let first = c.in-Some-take.ensures.taken_first in
    let one = entry first.0 c.in-Some-take.parcel in
    let took : Some c.take.new.pass ≡ with_taken w.take (one ∷ []) = ap Some first.2 ∙ ap (λ (k : Option Known). with_taken k (one ∷ [])) (sym c.in-Some.is) in
    rw (← c.self.view_is) (record {
      entry = one;
      is = λ k. record {
        host = w.host;
        timeout = w.timeout;
        take = took k;
        post = w.post;
        link = w.link;
        window = c.offer.ensures.offered k;
        refused = w.refused;
        failures = w.failures;
        failed = w.failed;
        outs = w.outs.items;
        heard = w.heard;
      };
      stands = c.offer.ensures.stands;
    })
