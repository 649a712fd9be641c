use Rattle.std.proofs.Common.{IsSome, sym, subst, ap, ◌∙◌}
use Rattle.harvester.specs.declared.events.Events.{Events}
use Rattle.harvester.specs.declared.stage.Stage.{Stage}
use Rattle.harvester.specs.Held.{Held}
use Rattle.harvester.specs.History.{with_licences, with_present, with_stage}
use Rattle.harvester.specs.Standing.{StandsFor, stage_of}
use Rattle.harvester.proofs.Closing.{closed_last_line, gathered_behind, none_closes, settled_all_told, settled_none_due, settled_none_waits}
use Rattle.harvester.proofs.Gathering.{none_where_false}
use Rattle.harvester.proofs.TurnsGiven.{closed_told, closes_none, closes_refused, closes_told, of_same, reads_of, settles_refused, settles_told, with_reader}
use Rattle.harvester.proofs.harvester.Harvester.settle.Goals as goal

pub returns-in_err-gather-clause-settled : goal.returns-in_err-gather-clause-settled
returns-in_err-gather-clause-settled g c = λ h ends may has.
    settles_refused g.T.Tail.numbers g.T.Tail.told c.args.now.0 c.args.ended h (reads_of h _ has.held c.requires.reads) _ c.from_residual.result c.from_residual.ensures.0
    (with_reader g.T.Tail.numbers g.T.Tail.told h _ has c.gather.new.self (c.gather.ensures.stands h has.held))

pub returns-in_err-tell-clause-settled : goal.returns-in_err-tell-clause-settled
returns-in_err-tell-clause-settled g c = λ h ends may has.
    settles_refused g.T.Tail.numbers g.T.Tail.told c.args.now.0 c.args.ended h (reads_of h _ has.held c.requires.reads) _ c.from_residual-in_err-tell.result
    c.from_residual-in_err-tell.ensures.0
    (c.in_err-tell.ensures.same_on_refusal h (with_reader g.T.Tail.numbers g.T.Tail.told h _ has c.gather.new.self (c.gather.ensures.stands h has.held)))

pub returns-then-branch-clause-settled : goal.returns-then-branch-clause-settled
returns-then-branch-clause-settled g c = λ h ends may has.
    settles_told g.T.Tail.numbers g.T.Tail.told c.args.now.0 c.args.ended h (reads_of h _ has.held c.requires.reads) _ c.in_ok-tell.field-0 c.in_ok-tell.ensures.one
    (c.in_ok-tell.ensures.told h (with_reader g.T.Tail.numbers g.T.Tail.told h _ has c.gather.new.self (c.gather.ensures.stands h has.held)))

pub returns-in_err-tell-2-clause-settled : goal.returns-in_err-tell-2-clause-settled
returns-in_err-tell-2-clause-settled g c = λ h ends may has.
    let reads = reads_of h _ has.held c.requires.reads in
    let w = c.close-closed.ensures.was_closed h (c.in_ok-gather.ensures.all c.if-branch.false h has.held) ends in
    closes_refused g.T.Tail.numbers g.T.Tail.told c.args.now.0 c.args.ended h reads _ w.licences w.where_due
    (none_closes h c.later_lines.ensures _ (c.in_ok-gather.ensures.all c.if-branch.false h has.held)) w.end_lines c.from_residual-in_err-tell-2.result
    c.from_residual-in_err-tell-2.ensures.0
    (c.in_err-tell-2.ensures.same_on_refusal _ (closed_told g.T.Tail.numbers g.T.Tail.told c.args.now.0 h reads _ has _ c.args.ended w may c.stand.new.self
    (subst (λ (s : Stage). StandsFor (with_stage (stage_of s) (with_present (with_licences w.licences h.present) h)) c.stand.new.self) c.stage_behind.ensures
    (c.stand.ensures.stands _ w.stands (gathered_behind h _ _ _ w _ c.stage_behind.ensures)))))

pub returns-then-closed-clause-settled : goal.returns-then-closed-clause-settled
returns-then-closed-clause-settled g c = λ h ends may has.
    let reads = reads_of h _ has.held c.requires.reads in
    let w = c.close-closed.ensures.was_closed h (c.in_ok-gather.ensures.all c.if-branch.false h has.held) ends in
    closes_told g.T.Tail.numbers g.T.Tail.told c.args.now.0 c.args.ended h reads _ w.licences w.where_due
    (none_closes h c.later_lines.ensures _ (c.in_ok-gather.ensures.all c.if-branch.false h has.held)) w.end_lines c.in_ok-tell-2.field-0 c.in_ok-tell-2.ensures.one
    (c.in_ok-tell-2.ensures.told _ (closed_told g.T.Tail.numbers g.T.Tail.told c.args.now.0 h reads _ has _ c.args.ended w may c.stand.new.self
    (subst (λ (s : Stage). StandsFor (with_stage (stage_of s) (with_present (with_licences w.licences h.present) h)) c.stand.new.self) c.stage_behind.ensures
    (c.stand.ensures.stands _ w.stands (gathered_behind h _ _ _ w _ c.stage_behind.ensures)))))

pub returns-then-branch-clause-of_file : goal.returns-then-branch-clause-of_file
returns-then-branch-clause-of_file g c = λ rules decides.
    of_same c.gather.new.self c.args.self.now.reader c.in_ok-tell.field-0 (ap (λ (held : Held). held.begin) c.gather.ensures.others)
    (ap (λ (held : Held). held.epoch) c.gather.ensures.others) (c.in_ok-tell.ensures.of_file rules decides)

pub returns-then-closed-clause-of_file : goal.returns-then-closed-clause-of_file
returns-then-closed-clause-of_file g c = λ rules decides.
    of_same c.gather.new.self c.args.self.now.reader c.in_ok-tell-2.field-0 (ap (λ (held : Held). held.begin) c.gather.ensures.others)
    (ap (λ (held : Held). held.epoch) c.gather.ensures.others)
    (of_same c.close-closed.new.self c.gather.new.self c.in_ok-tell-2.field-0 (ap (λ (held : Held). held.begin) c.close-closed.ensures.others)
    (ap (λ (held : Held). held.epoch) c.close-closed.ensures.others)
    (of_same c.stand.new.self c.close-closed.new.self c.in_ok-tell-2.field-0 (ap (λ (held : Held). held.begin) c.stand.ensures.others)
    (ap (λ (held : Held). held.epoch) c.stand.ensures.others) (c.in_ok-tell-2.ensures.of_file rules decides)))

pub returns-clause-settled : goal.returns-clause-settled
returns-clause-settled g c = λ h ends may has.
    let reads = reads_of h _ has.held c.requires.reads in
    let a = c.in_ok-gather.ensures.all c.if-branch.false h has.held in
    let w = c.close-closed.ensures.was_closed h a ends in
    let none = none_where_false _ _ c.close-closed.ensures.closed c.if-closed.false in
    closes_none g.T.Tail.numbers g.T.Tail.told c.args.now.0 c.args.ended h reads _ w.licences w.where_due
    (none_closes h c.later_lines.ensures _ (c.in_ok-gather.ensures.all c.if-branch.false h has.held)) w.end_lines
    (closed_told g.T.Tail.numbers g.T.Tail.told c.args.now.0 h reads _ has _ c.args.ended w may c.stand.new.self
    (subst (λ (s : Stage). StandsFor (with_stage (stage_of s) (with_present (with_licences w.licences h.present) h)) c.stand.new.self) c.stage_behind.ensures
    (c.stand.ensures.stands _ w.stands (gathered_behind h _ _ _ w _ c.stage_behind.ensures))))
    (record {
      none_closes = none_closes h c.later_lines.ensures _ a;
      none_waits = λ is. settled_none_waits h _ _ _ w none c.later_lines.ensures (λ waits. is (subst (λ (e : Events). IsSome e.grouper.gathered) (sym (ap (λ (held : Held). held.events) c.stand.ensures.others)) waits));
      none_due = settled_none_due h _ _ _ w none c.later_lines.ensures;
      all_told = settled_all_told h _ _ _ w none c.later_lines.ensures;
      last_line = ap (λ (held : Held). held.events.last_line.0) c.stand.ensures.others ∙ closed_last_line h _ _ _ w;
    })
