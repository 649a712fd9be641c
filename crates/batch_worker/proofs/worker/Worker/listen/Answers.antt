use Rattle.std.proofs.Common.{◌+◌, ◌<◌, ◌≤◌, Some, ap, arith, refl}
use Rattle.batch_worker.specs.Seen.{seen}
use Rattle.batch_worker.specs.Waits.{silent_since}
use Rattle.batch_worker.specs.Working.{Working}
use Rattle.batch_worker.proofs.Hearing.{fault_goes}
use Rattle.batch_worker.proofs.Turning.{bytes_work, fails_at, fails_behind, fault_is_told, faults_go, finishes, heard_link, idles_go, link_of, waits}
use Rattle.batch_worker.proofs.worker.Worker.listen.Goals as goal

pub returns-then-not-is_over : goal.returns-then-not-is_over
returns-then-not-is_over g c = λ capacity.
    let wire = c.args.wire.now in
    let s = seen (g.W.Wire.outcomes wire) (g.W.Wire.open_links wire) (g.W.Wire.faults wire) (g.W.Wire.idles wire) in
    let old = c.args.self.now in
    let x = c.in-Nothing.ensures in
    let early : c.args.now.0 < silent_since old + old.timeout = omega (arith, c.if-not-is_over.ensures.early, c.silent_since-since.ensures.is, ap (λ (w : Working g.row.L.Denot). w.timeout) x.is) in
    waits g.L.Link.told g.L.Link.faults g.L.Link.idles s c.args.now old c.receive.new.self x (record { begun = c.requires.in_flight; out = c.requires.all_is_out }) c.requires.no_more early

pub returns-in-Bytes : goal.returns-in-Bytes
returns-in-Bytes g c = λ capacity.
    let wire = c.args.wire.now in
    let s = seen (g.W.Wire.outcomes wire) (g.W.Wire.open_links wire) (g.W.Wire.faults wire) (g.W.Wire.idles wire) in
    bytes_work g.L.Link.told g.L.Link.faults g.L.Link.idles s c.args.now c.args.self.now c.receive.new.self c.requires.nothing_to_settle (record { begun = c.requires.in_flight; out = c.requires.all_is_out }) c.in-Bytes.ensures

pub returns-in-Fault : goal.returns-in-Fault
returns-in-Fault g c = λ capacity.
    let wire = c.args.wire.now in
    let later = c.fail.new.wire in
    let before = seen (g.W.Wire.outcomes wire) (g.W.Wire.open_links wire) (g.W.Wire.faults wire) (g.W.Wire.idles wire) in
    let after = seen (g.W.Wire.outcomes later) (g.W.Wire.open_links later) (g.W.Wire.faults later) (g.W.Wire.idles later) in
    let old = c.args.self.now in
    let mid = c.receive.new.self in
    let at = c.in-Fault.at in
    let x = c.in-Fault.ensures in
    let said = c.fail.ensures in
    record {
      fails = fails_at g.L.Link.told g.L.Link.faults g.L.Link.idles before after old mid c.fail.new.self c.args.now (fault_goes g.L.Link.told before c.args.now old mid at c.requires.nothing_to_settle x) said.failed said.finished;
      cause = record {
        all_out = record { begun = c.requires.in_flight; out = c.requires.all_is_out };
        finishes = finishes g.L.Link.told g.L.Link.faults g.L.Link.idles before after old mid c.fail.new.self c.args.now x.received.link x.received.later _ x.received.was
            (heard_link g.L.Link.told g.L.Link.faults g.L.Link.idles c.args.now old mid (Some at) x) said.failed said.finished (fault_is_told g.L.Link.told g.L.Link.faults g.L.Link.idles before c.args.now old mid at x);
      };
    }

pub returns-else-not-is_over : goal.returns-else-not-is_over
returns-else-not-is_over g c = λ capacity.
    let wire = c.args.wire.now in
    let later = c.fail-in-Nothing.new.wire in
    let before = seen (g.W.Wire.outcomes wire) (g.W.Wire.open_links wire) (g.W.Wire.faults wire) (g.W.Wire.idles wire) in
    let after = seen (g.W.Wire.outcomes later) (g.W.Wire.open_links later) (g.W.Wire.faults later) (g.W.Wire.idles later) in
    let old = c.args.self.now in
    let mid = c.receive.new.self in
    let x = c.in-Nothing.ensures in
    let said = c.fail-in-Nothing.ensures in
    let since = c.silent_since-since.result in
    let apart : since.0 + old.timeout ≤ c.args.now.0 = omega (arith, c.if-not-is_over.ensures.over, ap (λ (w : Working g.row.L.Denot). w.timeout) x.is) in
    record {
      fails = fails_behind g.L.Link.told g.L.Link.faults g.L.Link.idles before after old mid c.fail-in-Nothing.new.self c.args.now (idles_go g.L.Link.told g.L.Link.faults g.L.Link.idles before old mid x) said.failed said.finished;
      cause = record {
        all_out = record { begun = c.requires.in_flight; out = c.requires.all_is_out };
        finishes = finishes g.L.Link.told g.L.Link.faults g.L.Link.idles before after old mid c.fail-in-Nothing.new.self c.args.now x.link x.later _ x.was (link_of g.L.Link.told g.L.Link.faults g.L.Link.idles old mid _ x) said.failed said.finished (record {
          some_outs = c.silent_since-since.ensures.some_outs c.requires.all_is_out c.requires.in_flight;
          idled = x.cause.told_is;
          idle = x.cause.rose;
          since_is = c.silent_since-since.ensures.is;
          until_is = refl;
          apart = apart;
        });
      };
    }

pub returns-in-Closed : goal.returns-in-Closed
returns-in-Closed g c = λ capacity.
    let wire = c.args.wire.now in
    let later = c.fail-in-Closed.new.wire in
    let before = seen (g.W.Wire.outcomes wire) (g.W.Wire.open_links wire) (g.W.Wire.faults wire) (g.W.Wire.idles wire) in
    let after = seen (g.W.Wire.outcomes later) (g.W.Wire.open_links later) (g.W.Wire.faults later) (g.W.Wire.idles later) in
    let old = c.args.self.now in
    let mid = c.receive.new.self in
    let x = c.in-Closed.ensures in
    let said = c.fail-in-Closed.ensures in
    record {
      fails = fails_behind g.L.Link.told g.L.Link.faults g.L.Link.idles before after old mid c.fail-in-Closed.new.self c.args.now (faults_go g.L.Link.told g.L.Link.faults g.L.Link.idles before old mid x) said.failed said.finished;
      cause = record {
        all_out = record { begun = c.requires.in_flight; out = c.requires.all_is_out };
        finishes = finishes g.L.Link.told g.L.Link.faults g.L.Link.idles before after old mid c.fail-in-Closed.new.self c.args.now x.link x.later _ x.was (link_of g.L.Link.told g.L.Link.faults g.L.Link.idles old mid _ x) said.failed said.finished
            (record { same_talk = x.cause.told_is; rose = x.cause.rose; no_fewer = x.cause.no_fewer });
      };
    }

pub returns-in-Failed : goal.returns-in-Failed
returns-in-Failed g c = λ capacity.
    let wire = c.args.wire.now in
    let later = c.fail-in-Failed.new.wire in
    let before = seen (g.W.Wire.outcomes wire) (g.W.Wire.open_links wire) (g.W.Wire.faults wire) (g.W.Wire.idles wire) in
    let after = seen (g.W.Wire.outcomes later) (g.W.Wire.open_links later) (g.W.Wire.faults later) (g.W.Wire.idles later) in
    let old = c.args.self.now in
    let mid = c.receive.new.self in
    let x = c.in-Failed.ensures in
    let said = c.fail-in-Failed.ensures in
    record {
      fails = fails_behind g.L.Link.told g.L.Link.faults g.L.Link.idles before after old mid c.fail-in-Failed.new.self c.args.now (faults_go g.L.Link.told g.L.Link.faults g.L.Link.idles before old mid x) said.failed said.finished;
      cause = record {
        all_out = record { begun = c.requires.in_flight; out = c.requires.all_is_out };
        finishes = finishes g.L.Link.told g.L.Link.faults g.L.Link.idles before after old mid c.fail-in-Failed.new.self c.args.now x.link x.later _ x.was (link_of g.L.Link.told g.L.Link.faults g.L.Link.idles old mid _ x) said.failed said.finished
            (record { same_talk = x.cause.told_is; rose = x.cause.rose; no_fewer = x.cause.no_fewer });
      };
    }
