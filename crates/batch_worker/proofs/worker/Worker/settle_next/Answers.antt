use Rattle.std.proofs.Common.{Some}
use Rattle.batch_worker.specs.Held.{note_of}
use Rattle.batch_worker.proofs.worker.Worker.settle_next.Goals as goal

pub returns-clause-settled : goal.returns-clause-settled
returns-clause-settled g c =
    let w = c.self.inside in
    let got = c.in-Some.ensures in
    rw (← c.self.view_is) (record {
      parcel = c.in-Some.parcel;
      first = got.first;
      fewer = got.fewer;
      is = λ k. record {
        host = w.host;
        timeout = w.timeout;
        take = w.take;
        post = w.post;
        link = w.link;
        window = got.others_stay k;
        refused = Some (note_of c.in-Some.parcel);
        failures = w.failures;
        failed = w.failed;
        outs = w.outs.items;
        heard = w.heard;
      };
      stands = got.stands;
    })
