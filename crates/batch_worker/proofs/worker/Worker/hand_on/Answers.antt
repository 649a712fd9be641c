use Rattle.std.proofs.Common.{ap, sym, subst, ◌∙◌}
use Rattle.batch_worker.specs.Keeping.{SameMoments, WorkerGoes}
use Rattle.batch_worker.specs.Working.{Working}
use Rattle.batch_worker.proofs.Keeping.{goes_nowhere, goes_on, moments_on}
use Rattle.batch_worker.proofs.Stepping.{posting_begins, posting_goes_on, settled_goes, settled_same}
use Rattle.batch_worker.proofs.worker.Worker.hand_on.Goals as goal

pub returns-then-not-post_refused-clause-goes : goal.returns-then-not-post_refused-clause-goes
returns-then-not-post_refused-clause-goes g c = λ s.
    subst (λ (w : Working g.row.L.Denot). WorkerGoes g.L.Link.told s s c.args.self.now w) (sym c.if-not-post_refused.ensures.kept) (goes_nowhere _ s c.args.self.now)

pub returns-then-not-post_refused-clause-moments : goal.returns-then-not-post_refused-clause-moments
returns-then-not-post_refused-clause-moments g c =
    let kept = c.if-not-post_refused.ensures.kept in
    record { outs = ap (λ (w : Working g.row.L.Denot). w.outs) kept; heard = ap (λ (w : Working g.row.L.Denot). w.heard) kept }

pub returns-then-not-post_refused-clause-link : goal.returns-then-not-post_refused-clause-link
returns-then-not-post_refused-clause-link g c = ap (λ (w : Working g.row.L.Denot). w.link) c.if-not-post_refused.ensures.kept

pub returns-then-not-post_refused-clause-failures : goal.returns-then-not-post_refused-clause-failures
returns-then-not-post_refused-clause-failures g c = ap (λ (w : Working g.row.L.Denot). w.failures) c.if-not-post_refused.ensures.kept

pub loop-self-init : goal.loop-self-init
loop-self-init g c = posting_begins g.L.Link.told c.args.desk.now.id c.args.self.now c.post_refused.new.self c.if-not-post_refused.ensures.posted c.requires.of_this_box

pub returns-then-not-post_refused-2-clause-goes : goal.returns-then-not-post_refused-2-clause-goes
returns-then-not-post_refused-2-clause-goes g c = λ s.
    let is = c.loop-self.invariant in
    let mid = c.loop-self.self in
    let owing = c.settle_next.new.self in
    subst (λ (w : Working g.row.L.Denot). WorkerGoes g.L.Link.told s s c.args.self.now w) (sym c.if-not-post_refused-2.ensures.kept)
    (goes_on _ _ _ s s s c.args.self.now mid owing (is.goes s) (settled_goes g.L.Link.told s mid owing is.none_refused c.loop-self-test.ensures.settled))

pub returns-then-not-post_refused-2-clause-moments : goal.returns-then-not-post_refused-2-clause-moments
returns-then-not-post_refused-2-clause-moments g c =
    let mid = c.loop-self.self in
    let owing = c.settle_next.new.self in
    subst (λ (w : Working g.row.L.Denot). SameMoments c.args.self.now w) (sym c.if-not-post_refused-2.ensures.kept)
    (moments_on c.args.self.now mid owing c.loop-self.invariant.moments (settled_same mid owing c.loop-self-test.ensures.settled))

pub returns-then-not-post_refused-2-clause-link : goal.returns-then-not-post_refused-2-clause-link
returns-then-not-post_refused-2-clause-link g c =
    ap (λ (w : Working g.row.L.Denot). w.link) c.if-not-post_refused-2.ensures.kept
    ∙ ap (λ (w : Working g.row.L.Denot). w.link) c.loop-self-test.ensures.settled.is ∙ c.loop-self.invariant.link

pub returns-then-not-post_refused-2-clause-failures : goal.returns-then-not-post_refused-2-clause-failures
returns-then-not-post_refused-2-clause-failures g c =
    ap (λ (w : Working g.row.L.Denot). w.failures) c.if-not-post_refused-2.ensures.kept
    ∙ ap (λ (w : Working g.row.L.Denot). w.failures) c.loop-self-test.ensures.settled.is ∙ c.loop-self.invariant.failures

pub loop-self-preserved : goal.loop-self-preserved
loop-self-preserved g c =
    posting_goes_on g.L.Link.told c.args.desk.now.id c.args.self.now c.loop-self.self c.settle_next.new.self c.post_refused-in-loop-self.new.self c.loop-self.invariant c.loop-self-test.ensures.settled c.if-not-post_refused-2.ensures.posted

pub returns-clause-moments : goal.returns-clause-moments
returns-clause-moments g c =
    subst (λ (w : Working g.row.L.Denot). SameMoments c.args.self.now w) (sym c.loop-self-test.ensures.same) c.loop-self.invariant.moments

pub returns-clause-link : goal.returns-clause-link
returns-clause-link g c = ap (λ (w : Working g.row.L.Denot). w.link) c.loop-self-test.ensures.same ∙ c.loop-self.invariant.link

pub returns-clause-failures : goal.returns-clause-failures
returns-clause-failures g c = ap (λ (w : Working g.row.L.Denot). w.failures) c.loop-self-test.ensures.same ∙ c.loop-self.invariant.failures

pub returns-clause-goes : goal.returns-clause-goes
returns-clause-goes g c = λ s.
    subst (λ (w : Working g.row.L.Denot). WorkerGoes g.L.Link.told s s c.args.self.now w) (sym c.loop-self-test.ensures.same) (c.loop-self.invariant.goes s)
