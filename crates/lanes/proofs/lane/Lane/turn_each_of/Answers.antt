use Rattle.std.proofs.Common.{◌≡◌, ℕ, ◌+◌, inl, subst, arith}
use lib.ListN.{length-map}
use Rattle.lanes.specs.Laning.{laning}
use Rattle.lanes.specs.Passing.{TurnsEach}
use Rattle.lanes.specs.declared.seat.Seat.{Seat}
use Rattle.lanes.specs.declared.turning.Refused.{Refused}
use Rattle.lanes.proofs.Keeping.{as_many}
use Rattle.lanes.proofs.Passing.{covers_behind, each_of_none, each_refused_as, each_then, ok_of}
use Rattle.lanes.proofs.lane.Lane.turn_each_of.Goals as goal

pub seats-init : goal.seats-init
seats-init g c = record {
  each = each_of_none g.T.Tail.numbers g.T.Tail.told g.T.Tail.faults c.args.outlets.queue.now.capacity c.args.outlets.desk.now.capacity c.args.when tt c.args.range.start (laning c.args.self.now) c.requires.none_held;
  low = omega arith;
  high = c.requires.rising;
}

pub turn_at-requires-clause-within : goal.turn_at-requires-clause-within
turn_at-requires-clause-within g c =
    let many = as_many g.T.Tail.numbers g.T.Tail.told g.T.Tail.faults (laning c.args.self.now) (laning c.seats.self) c.seats.invariant.each.turns.keeps in
    omega (arith, many, length-map c.seats.self.seats.items (λ (s : Seat g.row.T.Denot). s.harvester), length-map c.args.self.now.seats.items (λ (s : Seat g.row.T.Denot). s.harvester), c.seats-test.true, c.requires.within)

pub returns-in_err-turn_at : goal.returns-in_err-turn_at
returns-in_err-turn_at g c =
    let queue = c.args.outlets.queue.now.capacity in
    let box = c.args.outlets.desk.now.capacity in
    each_refused_as g.T.Tail.numbers g.T.Tail.told g.T.Tail.faults queue box c.args.when _ c.from_residual.result c.from_residual.ensures.1 c.in_err-turn_at.field-0.0 c.args.range.start c.args.range.end c.args.range.start c.args.range.end (laning c.args.self.now) (laning c.turn_at.new.self) (omega arith) (omega arith)
    (each_then g.T.Tail.numbers g.T.Tail.told g.T.Tail.faults queue box c.args.when tt _ c.args.range.start c.seats.index c.seats.index (c.seats.index + 1) c.args.range.start c.args.range.end
    (laning c.args.self.now) (laning c.seats.self) (laning c.turn_at.new.self)
    (omega arith) c.seats.invariant.high c.seats.invariant.low (omega (arith, c.seats-test.true)) (inl (omega arith)) tt c.seats.invariant.each c.in_err-turn_at.ensures)

pub seats-preserved : goal.seats-preserved
seats-preserved g c = record {
  each = each_then g.T.Tail.numbers g.T.Tail.told g.T.Tail.faults c.args.outlets.queue.now.capacity c.args.outlets.desk.now.capacity c.args.when tt (ok_of _ Refused tt) c.args.range.start c.seats.index c.seats.index (c.seats.index + 1) c.args.range.start (c.seats.index + 1)
      (laning c.args.self.now) (laning c.seats.self) (laning c.turn_at.new.self)
      (omega arith) (omega arith) c.seats.invariant.low (omega arith) (inl (omega arith)) (covers_behind c.args.range.start c.seats.index (c.seats.index + 1)) c.seats.invariant.each c.in_ok-turn_at.ensures;
  low = omega (arith, c.seats.invariant.low);
  high = omega (arith, c.seats-test.true);
}

pub returns : goal.returns
returns g c =
    let same : c.seats.index ≡ c.args.range.end = omega (arith, c.seats-test.false, c.seats.invariant.high) in
    subst (λ (n : ℕ). TurnsEach g.T.Tail.numbers g.T.Tail.told g.T.Tail.faults c.args.outlets.queue.now.capacity c.args.outlets.desk.now.capacity c.args.when (ok_of (Unit {0}) Refused tt) c.args.range.start n (laning c.args.self.now) (laning c.seats.self)) same c.seats.invariant.each
