use Rattle.std.proofs.Common.{◌≡◌, sym, ap, subst, ◌∙◌}
use Rattle.line_cutter.specs.declared.line.Line.{Line}
use Rattle.multiline_core.specs.Gathering.{Grouping, Gathers}
use Rattle.multiline_core.specs.Step.{step_of, waiting_of}
use Rattle.multiline_core.proofs.Closing as lemmas
use Rattle.multiline_core.proofs.grouper.Grouper.line.Goals as goal

-- the step of a grouper that was not changed
step_by : (line : Line) (old new : Grouping) → new ≡ old →
    step_of old.rule (waiting_of old.gathered) line ≡ step_of new.rule (waiting_of new.gathered) line
step_by line old new same = ap (λ (g : Grouping). step_of g.rule (waiting_of g.gathered) line) (sym same)

pub returns-in-Ok-join-clause-gathers_where_none_is_closed : goal.returns-in-Ok-join-clause-gathers_where_none_is_closed
returns-in-Ok-join-clause-gathers_where_none_is_closed c = λ rule row at h.
    lemmas.joins rule row at c.step.new.self (subst (Gathers rule row at) (sym c.step.ensures.same) h) c.args.line c.args.now
    (sym c.in-Join.is ∙ c.in-Ok.ensures.step ∙ step_by c.args.line c.args.self.now c.step.new.self c.step.ensures.same)
    c.join.new.self c.in-Ok-join.ensures.joined

pub returns-in-Ok-join-clause-none_where_no_event_has_ended : goal.returns-in-Ok-join-clause-none_where_no_event_has_ended
returns-in-Ok-join-clause-none_where_no_event_has_ended c = λ rule row at h.
    lemmas.joins_open rule row at c.args.self.now h c.args.line c.args.now (sym c.in-Join.is ∙ c.in-Ok.ensures.step)

pub returns-in-Ok-join-2-clause-closes_an_event : goal.returns-in-Ok-join-2-clause-closes_an_event
returns-in-Ok-join-2-clause-closes_an_event c = λ rule row at h.
    lemmas.closes_with rule row at c.step.new.self (subst (Gathers rule row at) (sym c.step.ensures.same) h) c.args.line c.args.now
    (sym c.in-Last.is ∙ c.in-Ok.ensures.step ∙ step_by c.args.line c.args.self.now c.step.new.self c.step.ensures.same)
    c.join-in-Last.new.self c.take.new.self c.take.result c.in-Ok-join-2.ensures.joined c.take.ensures.group c.take.ensures.empty

pub returns-in-Next-clause-closes_an_event : goal.returns-in-Next-clause-closes_an_event
returns-in-Next-clause-closes_an_event c = λ rule row at h.
    lemmas.closes_before rule row at c.step.new.self (subst (Gathers rule row at) (sym c.step.ensures.same) h) c.args.line c.args.now
    (sym c.in-Next.is ∙ c.in-Ok.ensures.step ∙ step_by c.args.line c.args.self.now c.step.new.self c.step.ensures.same)
    c.take-group.new.self c.begin.new.self c.take-group.result c.take-group.ensures.group c.take-group.ensures.empty c.begin.ensures
