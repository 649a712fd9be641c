use Rattle.std.proofs.Common.{◌||◌, Bool, refl, sym, ap, subst, ◌∙◌}
use Rattle.harvester.specs.declared.buffer.TheConstants.{READ_SIZE}
use Rattle.harvester.specs.declared.stage.Stage.TheVariants as reader
use Rattle.harvester.specs.History.{Ended}
use Rattle.harvester.specs.Standing.{stage_of}
use Rattle.harvester.specs.Turns.{Goes, answer_of}
use Rattle.harvester.proofs.AddedLooks.{looks_at_stage, no_look}
use Rattle.harvester.proofs.Closing.{ended_last_line, none_left}
use Rattle.harvester.proofs.Gathering.{none_where_false}
use Rattle.harvester.proofs.TurnsGiven.{asked_here, turn_ended, turn_refused, turn_told}
use Rattle.harvester.proofs.harvester.Harvester.step.Goals as goal

pub returns-in_err-tell-in-Ended-clause-goes : goal.returns-in_err-tell-in-Ended-clause-goes
returns-in_err-tell-in-Ended-clause-goes g c = λ h ends may has.
    turn_refused g.T.Tail.numbers g.T.Tail.told READ_SIZE c.args.now.0 (c.args.last || h.ends) h _ _ Ended (sym has.held.holds.follows.stage ∙ ap stage_of (sym c.stage.ensures ∙ c.in-Ended.is)) tt
    (c.in_err-tell-in-Ended.ensures.same_on_refusal h has) c.from_residual.result c.from_residual.ensures.0

pub returns-then-has_closed-clause-goes : goal.returns-then-has_closed-clause-goes
returns-then-has_closed-clause-goes g c = λ h ends may has.
    turn_told g.T.Tail.numbers g.T.Tail.told READ_SIZE c.args.now.0 (c.args.last || h.ends) h _ _ Ended (sym has.held.holds.follows.stage ∙ ap stage_of (sym c.stage.ensures ∙ c.in-Ended.is)) tt
    c.in_ok-tell-in-Ended.field-0 c.in_ok-tell-in-Ended.ensures.one (c.in_ok-tell-in-Ended.ensures.told h has)

pub returns-in-Asking-clause-goes : goal.returns-in-Asking-clause-goes
returns-in-Asking-clause-goes g c = λ h ends may has.
    asked_here g.T.Tail.numbers g.T.Tail.told READ_SIZE c.args.now.0 (c.args.last || h.ends) h _ _ c.ask_again.result (sym has.held.holds.follows.stage ∙ ap stage_of (sym c.stage.ensures ∙ c.in-Asking.is))
    (c.ask_again.ensures.asked h has)

pub returns-else-has_closed-clause-goes : goal.returns-else-has_closed-clause-goes
returns-else-has_closed-clause-goes g c = λ h ends may has.
    let ended = sym has.held.holds.follows.stage ∙ ap stage_of (sym c.stage.ensures ∙ c.in-Ended.is) in
    let none = none_where_false _ _ c.has_closed.ensures c.if-has_closed.false in
    turn_ended g.T.Tail.numbers g.T.Tail.told READ_SIZE c.args.now.0 (c.args.last || h.ends) h _ _ ended has
    (none_left h c.later_lines.ensures _ has.held ended none) (ended_last_line h _ has.held ended)

pub returns-in-Reading-clause-goes : goal.returns-in-Reading-clause-goes
returns-in-Reading-clause-goes g c = λ h ends may has.
    let same = c.may_end-ended.ensures ∙ ap (λ (b : Bool). c.args.last || b) has.held.holds.follows.ends in
    subst (λ (b : Bool). Goes g.T.Tail.numbers g.T.Tail.told READ_SIZE c.args.now.0 b h c.args.self.now (answer_of c.go_on.result) c.go_on.new.self) same
    (c.go_on.ensures.goes h ends (λ is. may (sym same ∙ is)) has)

pub returns-in_err-tell-in-Ended-clause-looks : goal.returns-in_err-tell-in-Ended-clause-looks
returns-in_err-tell-in-Ended-clause-looks g c = looks_at_stage _ reader.Ended (sym c.stage.ensures ∙ c.in-Ended.is) _ _ _ _ _ (no_look _ (λ file. refl) _ _ _ (ap g.T.Tail.told c.tell.ensures.tail_kept))

pub returns-then-has_closed-clause-looks : goal.returns-then-has_closed-clause-looks
returns-then-has_closed-clause-looks g c = looks_at_stage _ reader.Ended (sym c.stage.ensures ∙ c.in-Ended.is) _ _ _ _ _ (no_look _ (λ file. refl) _ _ _ (ap g.T.Tail.told c.tell.ensures.tail_kept))

pub returns-else-has_closed-clause-looks : goal.returns-else-has_closed-clause-looks
returns-else-has_closed-clause-looks g c = looks_at_stage _ reader.Ended (sym c.stage.ensures ∙ c.in-Ended.is) _ _ _ _ _ (no_look _ (λ file. refl) _ _ _ refl)

pub returns-in-Asking-clause-looks : goal.returns-in-Asking-clause-looks
returns-in-Asking-clause-looks g c = looks_at_stage _ reader.Asking (sym c.stage.ensures ∙ c.in-Asking.is) _ _ _ _ _ c.ask_again.ensures.looks

pub returns-in-Reading-clause-looks : goal.returns-in-Reading-clause-looks
returns-in-Reading-clause-looks g c = looks_at_stage _ reader.Reading (sym c.stage.ensures ∙ c.in-Reading.is) _ _ _ _ _ c.go_on.ensures.looks
