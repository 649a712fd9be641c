use Rattle.std.proofs.Common.{ap}
use Rattle.batch_worker.specs.Seen.{seen}
use Rattle.batch_worker.specs.Working.{Working}
use Rattle.batch_worker.proofs.Turning.{fails_at, finishes, send_goes_to_end, send_works}
use Rattle.batch_worker.proofs.worker.Worker.send.Goals as goal

pub returns-in-Ok : goal.returns-in-Ok
returns-in-Ok g c = λ capacity.
    let wire = c.args.wire.now in
    let s = seen (g.W.Wire.outcomes wire) (g.W.Wire.open_links wire) (g.W.Wire.faults wire) (g.W.Wire.idles wire) in
    send_works g.L.Link.told g.L.Link.faults g.L.Link.idles s c.args.now c.args.self.now c.send_piece.new.self c.in-Ok.ensures.sent

pub returns-in-Err : goal.returns-in-Err
returns-in-Err g c = λ capacity.
    let wire = c.args.wire.now in
    let later = c.fail.new.wire in
    let before = seen (g.W.Wire.outcomes wire) (g.W.Wire.open_links wire) (g.W.Wire.faults wire) (g.W.Wire.idles wire) in
    let after = seen (g.W.Wire.outcomes later) (g.W.Wire.open_links later) (g.W.Wire.faults later) (g.W.Wire.idles later) in
    let old = c.args.self.now in
    let mid = c.send_piece.new.self in
    let x = c.in-Err.ensures.failed in
    record {
      fails = fails_at g.L.Link.told g.L.Link.faults g.L.Link.idles before after old mid c.fail.new.self c.args.now
          (send_goes_to_end g.L.Link.told g.L.Link.faults g.L.Link.idles before old mid x) c.fail.ensures.failed c.fail.ensures.finished;
      cause = finishes g.L.Link.told g.L.Link.faults g.L.Link.idles before after old mid c.fail.new.self c.args.now x.link x.later _ x.was (ap (λ (w : Working g.row.L.Denot). w.link) x.is)
          c.fail.ensures.failed c.fail.ensures.finished (record { same_talk = x.told_is; rose = x.rose; no_fewer = x.no_fewer });
    }
