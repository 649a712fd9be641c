use Rattle.std.proofs.Common.{sym, subst, ap, ◌∙◌}
use Rattle.harvester.specs.Held.{Held}
use Rattle.harvester.specs.Standing.{AllGathered, StandsFor}
use Rattle.harvester.proofs.Lasting.{rebuffers, rebuffers_all}
use Rattle.harvester.proofs.reader.Reader.make_room.Goals as goal

pub returns-in_ok-enlarge-clause-stands : goal.returns-in_ok-enlarge-clause-stands
returns-in_ok-enlarge-clause-stands c = λ h stands.
    rebuffers h _ (subst (λ (held : Held). StandsFor h held) (sym c.self.view_is) stands) c.enlarge.new.self
    (ap (λ (held : Held). held.filled) c.self.view_is ∙ c.requires) c.in_ok-enlarge.ensures.some_room

pub returns-in_ok-enlarge-clause-all_gathered : goal.returns-in_ok-enlarge-clause-all_gathered
returns-in_ok-enlarge-clause-all_gathered c = λ h all.
    rebuffers_all h _ (subst (λ (held : Held). AllGathered h held) (sym c.self.view_is) all) c.enlarge.new.self c.in_ok-enlarge.ensures.some_room
