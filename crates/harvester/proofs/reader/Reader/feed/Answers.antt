use Rattle.std.proofs.Common.{List, ℕ, ◌++◌, ◌∙◌, sym, subst, ap}
use Rattle.harvester.specs.Gathered.{IsGathered}
use Rattle.harvester.specs.Held.{Held}
use Rattle.harvester.specs.Standing.{StandsFor}
use Rattle.harvester.proofs.Lasting.{feeds_on}
use Rattle.harvester.proofs.Standings.{fed_stands}
use Rattle.harvester.proofs.reader.Reader.feed.Goals as goal

pub invariant_of-self-2 : goal.invariant_of-self-2
invariant_of-self-2 c =
    let i = c.self.invariant in
    record {
      history = i.history;
      of = i.of;
      holds = fed_stands i.history _ i.of i.holds c.feed.new.self
          (λ rules start fed licences of is. subst (λ (piece : List ℕ). IsGathered rules start (fed ++ piece) licences of c.feed.new.self) c.front.ensures
          (c.in_ok-feed.ensures.fed rules start fed licences of is)) c.feed.ensures.last_line;
    }

pub returns-clause-stands : goal.returns-clause-stands
returns-clause-stands c = λ h stands.
    c.shrink.ensures.stands h
    (feeds_on h _ (subst (λ (held : Held). StandsFor h held) (sym c.self.view_is) stands)
    (ap (λ (held : Held). held.stage) c.self.view_is ∙ c.requires.reads) c.feed.new.self
    (λ rules start fed licences of is. subst (λ (piece : List ℕ). IsGathered rules start (fed ++ piece) licences of c.feed.new.self) c.front.ensures
    (c.in_ok-feed.ensures.fed rules start fed licences of is)) c.feed.ensures.last_line)
