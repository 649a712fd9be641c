use Rattle.std.proofs.Common.{sym, subst, ap, ◌∙◌, ◌+◌}
use Rattle.harvester.specs.Gathered.{none_gathered}
use Rattle.harvester.specs.Held.{Held}
use Rattle.harvester.specs.History.{rules_in, with_epoch}
use Rattle.harvester.specs.Standing.{StandsFor}
use Rattle.harvester.proofs.Lasting.{begins_epoch_on}
use Rattle.harvester.proofs.Standings.{epoch_stands}
use Rattle.harvester.proofs.reader.Reader.begin_life.Goals as goal

pub invariant_of-self : goal.invariant_of-self
invariant_of-self c =
    let i = c.self.invariant in
    let t = i.holds in
    record {
      history = with_epoch i.history;
      of = none_gathered;
      holds = epoch_stands i.history _ i.of t c.args.epoch c.begin_life.new.self
          (c.requires.next ∙ sym (ap (λ (held : Held). held.epoch.0 + 1) c.self.view_is))
          (c.begin_life.ensures.gathered (rules_in i.history) i.history.present.start t.has.fed i.history.present.licences i.of t.has.gathered)
          c.begin_life.ensures.last_line;
    }

pub returns-clause-stands : goal.returns-clause-stands
returns-clause-stands c = λ h asks stands.
    let t = subst (λ (held : Held). StandsFor h held) (sym c.self.view_is) stands in
    begins_epoch_on h _ t asks c.args.epoch c.begin_life.new.self
    (c.requires.next ∙ sym (ap (λ (held : Held). held.epoch.0 + 1) c.self.view_is))
    (c.begin_life.ensures.gathered (rules_in h) h.present.start t.holds.has.fed h.present.licences t.of t.holds.has.gathered)
    c.begin_life.ensures.last_line
