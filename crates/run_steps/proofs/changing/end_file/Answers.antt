use Rattle.std.proofs.Common.{false, subst, sym, ◌<◌, ℕ}
use Rattle.lanes.specs.Changing.{HasEnding}
use Rattle.rounds.specs.Crewed.{lanings}
use Rattle.run_steps.proofs.ChangedLanes.{as_many}
use Rattle.run_steps.proofs.ChangesMade.{on_stirred}
use Rattle.run_steps.proofs.changing.end_file.Goals as goal

pub returns-clause-ends : goal.returns-clause-ends
returns-clause-ends g c =
    let stirred = c.if-not-stir_file.ensures.stirs in
    let mid = c.stir_file.new.lanes in
    record {
      mid = lanings mid;
      stirred = stirred;
      ended = on_stirred c.args.slot mid c.index-lanes-lane.result c.ending.new.self (subst (λ (n : ℕ). 0 < n) (sym c.stir_file.ensures.as_many) c.requires.some_lanes)
          (HasEnding g.T.Tail.numbers g.T.Tail.told false) (lanings c.args.lanes.now) (sym (as_many (lanings c.args.lanes.now) (lanings mid) stirred)) stirred c.ending.result c.ending.ensures.ends c.ending.ensures.none;
    }
