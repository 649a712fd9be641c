use Rattle.std.proofs.Common.{◌<◌, length, arith}
use lib.ListN.{length-map}
use Rattle.lanes.specs.Laning.{laning}
use Rattle.lanes.specs.declared.seat.Seat.{Seat}
use Rattle.lanes.proofs.Passing.{on_as, on_of_none, on_of_one, on_refused_in}
use Rattle.lanes.proofs.lane.Lane.turn_if_on.Goals as goal

pub returns-then-not-index-clause-turned : goal.returns-then-not-index-clause-turned
returns-then-not-index-clause-turned g c =
    on_of_none g.T.Tail.numbers g.T.Tail.told g.T.Tail.faults c.args.outlets.queue.now.capacity c.args.outlets.desk.now.capacity c.args.when 0 (laning c.args.self.now) c.requires.none_held

pub returns-in_err-turn_at-clause-turned : goal.returns-in_err-turn_at-clause-turned
returns-in_err-turn_at-clause-turned g c =
    let old = laning c.args.self.now in
    let new = laning c.turn_at.new.self in
    let queue = c.args.outlets.queue.now.capacity in
    let box = c.args.outlets.desk.now.capacity in
    let within : c.args.index < length old.harvesters = omega (arith, length-map c.args.self.now.seats.items (λ (s : Seat g.row.T.Denot). s.harvester), c.requires.within) in
    on_refused_in g.T.Tail.numbers g.T.Tail.told g.T.Tail.faults queue box c.args.when _ c.from_residual.result c.from_residual.ensures.1 c.in_err-turn_at.field-0.0 1 old new
    (on_of_one g.T.Tail.numbers g.T.Tail.told g.T.Tail.faults queue box c.args.when _ c.args.index old new within c.in_err-turn_at.ensures)

pub returns-clause-turned : goal.returns-clause-turned
returns-clause-turned g c =
    let old = laning c.args.self.now in
    let new = laning c.turn_at.new.self in
    let queue = c.args.outlets.queue.now.capacity in
    let box = c.args.outlets.desk.now.capacity in
    let within : c.args.index < length old.harvesters = omega (arith, length-map c.args.self.now.seats.items (λ (s : Seat g.row.T.Denot). s.harvester), c.requires.within) in
    on_as g.T.Tail.numbers g.T.Tail.told g.T.Tail.faults queue box c.args.when tt 1 1 old new
    (on_of_one g.T.Tail.numbers g.T.Tail.told g.T.Tail.faults queue box c.args.when _ c.args.index old new within c.in_ok-turn_at.ensures)
