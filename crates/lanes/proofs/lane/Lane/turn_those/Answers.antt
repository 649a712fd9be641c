use Rattle.std.proofs.Common.{ℕ, ◌+◌, arith}
use lib.ListN.{length-map}
use Rattle.lanes.specs.Laning.{laning}
use Rattle.lanes.specs.declared.seat.Seat.{Seat}
use Rattle.lanes.specs.declared.turning.Refused.{Refused}
use Rattle.lanes.proofs.Keeping.{as_many}
use Rattle.lanes.proofs.Passing.{err_of, ok_of, on_as, on_at_most, on_of_none, on_refused_in, on_then}
use Rattle.lanes.proofs.lane.Lane.turn_those.Goals as goal

pub seats-init : goal.seats-init
seats-init g c = record {
  on = on_of_none g.T.Tail.numbers g.T.Tail.told g.T.Tail.faults c.args.outlets.queue.now.capacity c.args.outlets.desk.now.capacity c.args.when tt (laning c.args.self.now) c.requires.none_held;
  most = omega arith;
}

pub returns-in_err-turned-clause-turned : goal.returns-in_err-turned-clause-turned
returns-in_err-turned-clause-turned g c =
    let old = laning c.args.self.now in
    let mid = laning c.seats.self in
    let new = laning c.turn_if_on.new.self in
    let queue = c.args.outlets.queue.now.capacity in
    let box = c.args.outlets.desk.now.capacity in
    let error = c.in_err-turned.field-0.0 in
    on_refused_in g.T.Tail.numbers g.T.Tail.told g.T.Tail.faults queue box c.args.when _ c.from_residual.result c.from_residual.ensures.1 error c.args.most old new
    (on_at_most g.T.Tail.numbers g.T.Tail.told g.T.Tail.faults queue box c.args.when (err_of ℕ Refused error) (c.seats.turned + 1) c.args.most old new (omega (arith, c.if-turned-most.true))
    (on_then g.T.Tail.numbers g.T.Tail.told g.T.Tail.faults queue box c.args.when tt (err_of ℕ Refused error) c.seats.turned 1 old mid new c.seats.invariant.on c.in_err-turned.ensures.turned))

pub seats-smaller : goal.seats-smaller
seats-smaller g c =
    let many = as_many g.T.Tail.numbers g.T.Tail.told g.T.Tail.faults (laning c.args.self.now) (laning c.seats.self) c.seats.invariant.on.turns.keeps in
    omega (arith, many, length-map c.seats.self.seats.items (λ (s : Seat g.row.T.Denot). s.harvester), length-map c.args.self.now.seats.items (λ (s : Seat g.row.T.Denot). s.harvester), c.seats-test.true, c.len.ensures)

pub seats-preserved : goal.seats-preserved
seats-preserved g c =
    let old = laning c.args.self.now in
    let mid = laning c.seats.self in
    let new = laning c.turn_if_on.new.self in
    let queue = c.args.outlets.queue.now.capacity in
    let box = c.args.outlets.desk.now.capacity in
    record {
      on = on_as g.T.Tail.numbers g.T.Tail.told g.T.Tail.faults queue box c.args.when c.in_ok-turned.field-0 tt (c.seats.turned + c.in_ok-turned.field-0) old new
          (on_then g.T.Tail.numbers g.T.Tail.told g.T.Tail.faults queue box c.args.when tt (ok_of ℕ Refused c.in_ok-turned.field-0) c.seats.turned c.in_ok-turned.field-0 old mid new c.seats.invariant.on c.in_ok-turned.ensures.turned);
      most = omega (arith, c.if-turned-most.true, c.in_ok-turned.ensures.at_most_one);
    }
