use Rattle.std.proofs.Common.{sym, subst, ap, ◌∙◌}
use Rattle.harvester.specs.Held.{Held}
use Rattle.harvester.specs.History.{rules_in}
use Rattle.harvester.specs.Standing.{StandsFor}
use Rattle.harvester.proofs.Lasting.{all_where_found, finds_on}
use Rattle.harvester.proofs.Standings.{found_stands}
use Rattle.harvester.proofs.reader.Reader.find.Goals as goal

pub invariant_of-self : goal.invariant_of-self
invariant_of-self c =
    let i = c.self.invariant in
    let t = i.holds in
    record {
      history = i.history;
      of = _;
      holds = found_stands i.history _ i.of t c.find.new.self c.find.result
          (c.find.ensures.found (rules_in i.history) i.history.present.start t.has.fed i.history.present.licences i.of t.has.gathered);
    }

pub returns-clause-stands : goal.returns-clause-stands
returns-clause-stands c = λ h stands.
    let t = subst (λ (held : Held). StandsFor h held) (sym c.self.view_is) stands in
    finds_on h _ t (ap (λ (held : Held). held.stage) c.self.view_is ∙ c.requires.reads) c.lines_stay.ensures c.find.new.self c.find.result
    (c.find.ensures.found (rules_in h) h.present.start t.holds.has.fed h.present.licences t.of t.holds.has.gathered)

pub returns-clause-all : goal.returns-clause-all
returns-clause-all c =
    all_where_found _ c.args.self.now c.self.view_is c.lines_stay.ensures c.find.new.self c.find.result c.find.ensures.found c.requires.reads
    (ap (λ (held : Held). held.filled) c.self.view_is ∙ c.requires.fed) c.find.ensures.closed
