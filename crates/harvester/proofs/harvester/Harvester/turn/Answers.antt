use Rattle.std.proofs.Common.{◌||◌, refl, sym, subst, ◌∙◌}
use Rattle.std.proofs.lemmas.Bool.{or_right}
use Rattle.harvester.specs.declared.buffer.TheConstants.{READ_SIZE}
use Rattle.harvester.specs.declared.turn.Turn.{Turn}
use Rattle.harvester.specs.TurnLooks.{LooksInTurn}
use Rattle.harvester.specs.Turned.{IsOfFile, with_turn}
use Rattle.harvester.proofs.TurnsGiven.{changed_with, is_fault, is_of_file, rested, turned_told}
use Rattle.harvester.proofs.harvester.Harvester.turn.Goals as goal

pub returns-clause-goes : goal.returns-clause-goes
returns-clause-goes g c = λ h has.
    let turned = with_turn c.args.now.0 c.args.last h in
    rested g.T.Tail.numbers g.T.Tail.told READ_SIZE c.args.now.0 (c.args.last || h.ends) turned _ _ c.is_end-self.result _ (sym c.answer-turn.ensures)
    (c.step.ensures.goes turned (record { earlier = h.moments; are = refl }) (λ is. or_right h.may_end (c.args.last || h.ends) is)
    (turned_told g.T.Tail.numbers g.T.Tail.told h _ c.args.now.0 c.args.last has))

pub returns-clause-of_file : goal.returns-clause-of_file
returns-clause-of_file g c = λ h has.
    subst (λ (t : Turn). IsOfFile c.args.self.now.reader.begin.slot c.args.self.now.reader.epoch t) (sym c.answer-turn.ensures)
    (is_of_file c.step.result _ _ (c.step.ensures.of_file _ has.decides))

pub returns-clause-changed : goal.returns-clause-changed
returns-clause-changed g c = λ h has.
    let turned = with_turn c.args.now.0 c.args.last h in
    changed_with g.T.Tail.numbers g.T.Tail.told READ_SIZE c.args.now.0 (c.args.last || h.ends) turned _ _ c.answer-turn.result
    (rested g.T.Tail.numbers g.T.Tail.told READ_SIZE c.args.now.0 (c.args.last || h.ends) turned _ _ c.is_end-self.result _ (sym c.answer-turn.ensures)
    (c.step.ensures.goes turned (record { earlier = h.moments; are = refl }) (λ is. or_right h.may_end (c.args.last || h.ends) is)
    (turned_told g.T.Tail.numbers g.T.Tail.told h _ c.args.now.0 c.args.last has)))

pub returns-clause-read_fault_only_where_faults_rose : goal.returns-clause-read_fault_only_where_faults_rose
returns-clause-read_fault_only_where_faults_rose g c = λ h has is.
    c.step.ensures.read_fault_only_where_faults_rose
    (is_fault c.step.result _ _ (c.step.ensures.of_file _ has.decides) (sym c.answer-turn.ensures ∙ is))

pub returns-clause-looks : goal.returns-clause-looks
returns-clause-looks g c = subst (λ (t : Turn). LooksInTurn g.T.Tail.numbers g.T.Tail.told c.args.self.now t c.step.new.self) (sym c.answer-turn.ensures) c.step.ensures.looks
