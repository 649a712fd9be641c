use Rattle.std.proofs.Common.{[], refl, sym, subst, ap, ◌∙◌, arith}
use Rattle.told_events.specs.Fate.{fate_of}
use Rattle.harvester.specs.declared.events.Events.{Events}
use Rattle.harvester.specs.Held.{Held}
use Rattle.harvester.specs.History.{rules_in}
use Rattle.harvester.specs.Standing.{StandsFor}
use Rattle.harvester.proofs.Lasting.{passes, passes_on}
use Rattle.harvester.proofs.Standings.{told_of}
use Rattle.harvester.proofs.reader.Reader.pass.Goals as goal

pub invariant_of-self : goal.invariant_of-self
invariant_of-self c =
    let i = c.self.invariant in
    let group = c.in-Some.group in
    record {
      history = _;
      of = _;
      holds = passes i.history _ group c.in-Some.is c.lines_stay.ensures c.later_lines.ensures c.events_stay.ensures
          (record { span = group.span; path = []; now = 0; fate = fate_of (rules_in i.history) [] group.span.start group.message 0 }) refl
          (omega (arith, c.start.ensures.start, c.start.ensures.before_the_end)) refl c.pass.new.self c.end-end.result c.end-end.ensures
          c.pass.ensures.passed (ap (λ (e : Events). e.last_line) c.pass.ensures.others) i.of i.holds;
    }

pub returns-clause-told : goal.returns-clause-told
returns-clause-told c = λ h event stands.
    let group = c.in-Some.group in
    let t = subst (λ (held : Held). StandsFor h held) (sym c.self.view_is) stands in
    told_of c.args.self.now.events.closed group _ (sym (ap (λ (held : Held). held.events.closed) c.self.view_is) ∙ c.in-Some.is)
    (λ span fate. passes_on h _ group c.in-Some.is c.lines_stay.ensures c.later_lines.ensures c.events_stay.ensures event span
    (omega (arith, c.start.ensures.start, c.start.ensures.before_the_end)) fate c.pass.new.self c.end-end.result c.end-end.ensures
    c.pass.ensures.passed (ap (λ (e : Events). e.last_line) c.pass.ensures.others) t)
