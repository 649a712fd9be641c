use Rattle.std.proofs.Common.{◌+◌, Bool, Ok, IfSome, sym, subst, ap, ◌∙◌}
use Rattle.wire_base.specs.declared.numbers.Epoch.{Epoch}
use Rattle.harvester.specs.declared.turn.Turn.TheVariants as turn
use Rattle.harvester.specs.Asked.{WasAsked}
use Rattle.harvester.specs.Standing.{stage_of}
use Rattle.harvester.proofs.AddedLooks.{asking_refused, other_key, same_key}
use Rattle.harvester.proofs.AskedGiven.{begins, epochs_out, has_other, met_fault}
use Rattle.harvester.proofs.harvester.Harvester.ask_again.Goals as goal

pub returns-in_err-ask-clause-asked : goal.returns-in_err-ask-clause-asked
returns-in_err-ask-clause-asked g c = λ h has.
    met_fault g.T.Tail.numbers g.T.Tail.told h _ has c.requires.asks _ c.ask.ensures.numbers_kept c.ask.ensures.untold _ c.from_residual.result
    c.from_residual.ensures.0 _ c.in_err-ask.ensures.asked has.held

pub returns-then-not-branch-clause-asked : goal.returns-then-not-branch-clause-asked
returns-then-not-branch-clause-asked g c = λ h has.
    has_other g.T.Tail.numbers g.T.Tail.told h _ has c.requires.asks _ c.ask.ensures.numbers_kept c.ask.ensures.untold _
    (subst (λ (b : Bool). IfSome (g.T.Tail.told c.args.self.now.tail)
    (λ earlier. WasAsked c.args.self.now.reader (g.T.Tail.numbers c.args.self.now.tail) earlier (Ok b) (g.T.Tail.told c.ask.new.tail)))
    c.if-not-branch.true c.in_ok-ask.ensures.asked) (c.stand.ensures.stands h has.held tt)

pub returns-then-epoch-clause-asked : goal.returns-then-epoch-clause-asked
returns-then-epoch-clause-asked g c = λ h has.
    epochs_out g.T.Tail.numbers g.T.Tail.told h _ has c.requires.asks _ c.ask.ensures.numbers_kept c.ask.ensures.untold _
    (subst (λ (b : Bool). IfSome (g.T.Tail.told c.args.self.now.tail)
    (λ earlier. WasAsked c.args.self.now.reader (g.T.Tail.numbers c.args.self.now.tail) earlier (Ok b) (g.T.Tail.told c.ask.new.tail)))
    c.if-not-branch.false c.in_ok-ask.ensures.asked) (c.stand-then-epoch.ensures.stands h has.held tt)
    (sym (ap (λ (e : Epoch). e.0) c.epoch-epoch.ensures) ∙ c.if-epoch.true)

pub returns-clause-asked : goal.returns-clause-asked
returns-clause-asked g c = λ h has.
    begins g.T.Tail.numbers g.T.Tail.told h _ has c.requires.asks _ c.ask.ensures.numbers_kept c.ask.ensures.untold _ _
    (subst (λ (b : Bool). IfSome (g.T.Tail.told c.args.self.now.tail)
    (λ earlier. WasAsked c.args.self.now.reader (g.T.Tail.numbers c.args.self.now.tail) earlier (Ok b) (g.T.Tail.told c.ask.new.tail)))
    c.if-not-branch.false c.in_ok-ask.ensures.asked) (c.begin_life.ensures.stands h (sym has.held.holds.follows.stage ∙ ap stage_of c.requires.asks) has.held)
    (ap (λ (e : Epoch). e.0 + 1) c.epoch-epoch.ensures)

pub returns-in_err-ask-clause-looks : goal.returns-in_err-ask-clause-looks
returns-in_err-ask-clause-looks g c =
    asking_refused _ _ _ _ c.ask.ensures.untold _ c.from_residual.result c.from_residual.ensures.0 c.in_err-ask.ensures.asked

pub returns-then-not-branch-clause-looks : goal.returns-then-not-branch-clause-looks
returns-then-not-branch-clause-looks g c = other_key _ _ _ _ c.ask.ensures.untold _ c.if-not-branch.true c.in_ok-ask.ensures.asked

pub returns-then-epoch-clause-looks : goal.returns-then-epoch-clause-looks
returns-then-epoch-clause-looks g c = same_key _ _ _ _ c.ask.ensures.untold _ c.if-not-branch.false turn.EpochsOut tt c.in_ok-ask.ensures.asked

pub returns-clause-looks : goal.returns-clause-looks
returns-clause-looks g c = same_key _ _ _ _ c.ask.ensures.untold _ c.if-not-branch.false (turn.NewLife c.args.self.now.reader.epoch) tt c.in_ok-ask.ensures.asked
