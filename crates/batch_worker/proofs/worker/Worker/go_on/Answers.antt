use Rattle.std.proofs.Common.{subst}
use Rattle.batch_worker.specs.Answers.{IsTurn}
use Rattle.batch_worker.specs.Seen.{seen}
use Rattle.batch_worker.specs.Working.{Working}
use Rattle.batch_worker.proofs.Turning.{begin_works, connect_fails}
use Rattle.batch_worker.proofs.worker.Worker.go_on.Goals as goal

pub returns-then-is_waited_for : goal.returns-then-is_waited_for
returns-then-is_waited_for g c = λ capacity.
    let wire = c.args.wire.now in
    let later = c.listen-then-is_waited_for.new.wire in
    let before = seen (g.W.Wire.outcomes wire) (g.W.Wire.open_links wire) (g.W.Wire.faults wire) (g.W.Wire.idles wire) in
    let after = seen (g.W.Wire.outcomes later) (g.W.Wire.open_links later) (g.W.Wire.faults later) (g.W.Wire.idles later) in
    subst (λ (w : Working g.row.L.Denot). IsTurn g.L.Link.told g.L.Link.faults g.L.Link.idles capacity before after c.args.now w c.listen-then-is_waited_for.new.self c.listen-then-is_waited_for.result)
    c.if-not-gather.ensures.none.0 (c.listen-then-is_waited_for.ensures capacity)

pub returns-then-not-connect : goal.returns-then-not-connect
returns-then-not-connect g c = λ capacity.
    let wire = c.args.wire.now in
    let later = c.connect.new.wire in
    let before = seen (g.W.Wire.outcomes wire) (g.W.Wire.open_links wire) (g.W.Wire.faults wire) (g.W.Wire.idles wire) in
    let after = seen (g.W.Wire.outcomes later) (g.W.Wire.open_links later) (g.W.Wire.faults later) (g.W.Wire.idles later) in
    let refused = c.if-not-connect.ensures.refused in
    connect_fails g.L.Link.told g.L.Link.faults g.L.Link.idles before after c.args.self.now c.gather.new.self c.connect.new.self c.count_failure.new.self c.args.now
    c.gather.ensures.goes c.gather.ensures.filled c.connect.ensures.goes refused.0 refused.1 c.count_failure.ensures refused.2 c.if-not-connect.ensures.kept

pub returns : goal.returns
returns g c = λ capacity.
    let wire = c.args.wire.now in
    let later = c.connect.new.wire in
    let before = seen (g.W.Wire.outcomes wire) (g.W.Wire.open_links wire) (g.W.Wire.faults wire) (g.W.Wire.idles wire) in
    let after = seen (g.W.Wire.outcomes later) (g.W.Wire.open_links later) (g.W.Wire.faults later) (g.W.Wire.idles later) in
    begin_works g.L.Link.told g.L.Link.faults g.L.Link.idles before after c.args.now c.args.self.now c.gather.new.self c.connect.new.self c.begin.new.self
    c.if-not-connect.ensures.same_outcomes c.if-not-connect.ensures.link
    c.gather.ensures.goes c.gather.ensures.filled c.connect.ensures.goes c.connect.ensures.is c.begin.ensures.begun
