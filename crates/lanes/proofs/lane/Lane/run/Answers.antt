use Rattle.std.specs.Prelude.{All}
use Rattle.std.proofs.Common.{◌≡◌, List, subst, sym, ap, ◌∙◌}
use Rattle.harvester.specs.declared.harvester.Harvester.{Harvester}
use Rattle.lanes.specs.Laning.{Laning, laning}
use Rattle.lanes.specs.Tallies.{begun_tally}
use Rattle.lanes.specs.Turned.{IsKnown}
use Rattle.lanes.specs.declared.given.Given.{Given}
use Rattle.lanes.specs.declared.given.Given.TheVariants.{Nothing}
use Rattle.lanes.specs.declared.tally.Tally.{Tally}
use Rattle.lanes.proofs.Begins.{runs_on, runs_stuck}
use Rattle.lanes.proofs.lane.Lane.run.Goals as goal

pub returns-then-not-hand : goal.returns-then-not-hand
returns-then-not-hand g c =
    let old = laning c.args.self.now in
    let bare : Laning g.row.T.Denot = record old { held = c.replace-held.new.dest; tally = c.begun-self.result } in
    let is : bare ≡ record old { held = Nothing; tally = begun_tally _ } = ap (λ (h : Given). record old { held = h; tally = c.begun-self.result }) c.replace-held.ensures.after ∙ ap (λ (t : Tally). record old { held = Nothing; tally = t }) c.begun-self.ensures in
    record {
      runs = runs_stuck g.T.Tail.numbers g.T.Tail.told g.T.Tail.faults c.args.outlets.queue.now.capacity c.args.outlets.desk.now.capacity c.args.when old bare (laning c.hand.new.self) c.replace-held.result (sym c.replace-held.ensures.value) is
          c.hand.ensures.hands_on c.if-not-hand.ensures.held c.if-not-hand.ensures.something c.hand.ensures.refused;
    }

pub turn_all-requires-clause-known : goal.turn_all-requires-clause-known
turn_all-requires-clause-known g c =
    subst (λ (hs : List (Harvester g.row.T.Denot)). All (IsKnown g.T.Tail.numbers g.T.Tail.told) hs) (sym c.hand.ensures.hands_on.harvesters) c.requires.known

pub returns : goal.returns
returns g c =
    let old = laning c.args.self.now in
    let mid = laning c.hand.new.self in
    let bare : Laning g.row.T.Denot = record old { held = c.replace-held.new.dest; tally = c.begun-self.result } in
    let begun : Laning g.row.T.Denot = record mid { tally = c.begun-self-2.result } in
    let is : bare ≡ record old { held = Nothing; tally = begun_tally _ } = ap (λ (h : Given). record old { held = h; tally = c.begun-self.result }) c.replace-held.ensures.after ∙ ap (λ (t : Tally). record old { held = Nothing; tally = t }) c.begun-self.ensures in
    record {
      runs = runs_on g.T.Tail.numbers g.T.Tail.told g.T.Tail.faults c.args.outlets.queue.now.capacity c.args.outlets.desk.now.capacity c.args.when c.turn_all.result c.is_something-some.result old bare mid begun (laning c.turn_all.new.self) c.replace-held.result (sym c.replace-held.ensures.value) is
          c.hand.ensures.hands_on c.if-not-hand.ensures.through c.is_something-some.ensures.some c.is_something-some.ensures.none (ap (λ (t : Tally). record mid { tally = t }) c.begun-self-2.ensures) c.turn_all.ensures;
    }
