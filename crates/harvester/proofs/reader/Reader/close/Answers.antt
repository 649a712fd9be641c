use Rattle.std.proofs.Common.{ap, sym, subst}
use Rattle.harvester.specs.declared.events.Events.{Events}
use Rattle.harvester.specs.Held.{Held}
use Rattle.harvester.specs.History.{rules_in}
use Rattle.harvester.specs.Standing.{AllGathered, WasClosed}
use Rattle.harvester.proofs.Closing.{closed_stands, closes, not_closed}
use Rattle.harvester.proofs.reader.Reader.close.Goals as goal

pub invariant_of-self : goal.invariant_of-self
invariant_of-self c =
    let i = c.self.invariant in
    let t = i.holds in
    record {
      history = _;
      of = _;
      holds = closed_stands i.history _ i.of t c.flush.new.self
          (c.flush.ensures.flushed (rules_in i.history) i.history.present.start t.has.fed i.history.present.licences i.of t.has.gathered)
          (ap (λ (e : Events). e.last_line) c.flush.ensures.others);
    }

pub returns-clause-was_closed : goal.returns-clause-was_closed
returns-clause-was_closed c = λ h all ends.
    let a = subst (λ (held : Held). AllGathered h held) (sym c.self.view_is) all in
    let t = a.stands in
    closes h _ a c.args.ended c.args.now c.flush.new.self ends (c.may_close.ensures.why c.if-not-may_close.false)
    (c.flush.ensures.flushed (rules_in h) h.present.start t.holds.has.fed h.present.licences t.of t.holds.has.gathered)
    (ap (λ (e : Events). e.last_line) c.flush.ensures.others) c.flush.ensures.closed_where_one_waited

pub returns-then-not-may_close-clause-was_closed : goal.returns-then-not-may_close-clause-was_closed
returns-then-not-may_close-clause-was_closed c = λ h all ends.
    let a = subst (λ (held : Held). AllGathered h held) (sym c.self.view_is) all in
    let not = c.may_close.ensures.why_not c.if-not-may_close.true in
    subst (λ (held : Held). WasClosed h c.args.now.0 c.args.ended held) c.self.view_is
    (not_closed h _ a c.args.ended c.args.now not.0 not.1)
