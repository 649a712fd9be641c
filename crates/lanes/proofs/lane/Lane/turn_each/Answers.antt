use lib.ListN.{length-map}
use Rattle.std.proofs.Common.{◌≡◌, ℕ, inr, length, subst, arith}
use Rattle.lanes.specs.Laning.{laning}
use Rattle.lanes.specs.declared.seat.Seat.{Seat}
use Rattle.lanes.proofs.Keeping.{as_many}
use Rattle.lanes.proofs.Passing.{Covers, covers_before, each_refused_as, each_then, on_any}
use Rattle.lanes.proofs.lane.Lane.turn_each.Goals as goal

pub returns-in_err-turn_each_of : goal.returns-in_err-turn_each_of
returns-in_err-turn_each_of g c =
    each_refused_as g.T.Tail.numbers g.T.Tail.told g.T.Tail.faults c.args.outlets.queue.now.capacity c.args.outlets.desk.now.capacity c.args.when _ c.from_residual.result c.from_residual.ensures.1 c.in_err-turn_each_of.field-0.0
    c.min-next.result c.len-len.result 0 (length c.args.self.now.seats.items) (laning c.args.self.now) (laning c.turn_each_of.new.self) (omega arith) (omega (arith, c.len-len.ensures)) c.in_err-turn_each_of.ensures

pub turn_each_of-requires-2-clause-within : goal.turn_each_of-requires-2-clause-within
turn_each_of-requires-2-clause-within g c =
    let many = as_many g.T.Tail.numbers g.T.Tail.told g.T.Tail.faults (laning c.args.self.now) (laning c.turn_each_of.new.self) c.turn_each_of.ensures.turns.keeps in
    omega (arith, many, length-map c.turn_each_of.new.self.seats.items (λ (s : Seat g.row.T.Denot). s.harvester), length-map c.args.self.now.seats.items (λ (s : Seat g.row.T.Denot). s.harvester), c.min-next.ensures, c.len-len.ensures)

pub returns : goal.returns
returns g c =
    let len = c.len-len.result in
    let all = length c.args.self.now.seats.items in
    let next = c.min-next.result in
    let is : len ≡ all = omega (arith, c.len-len.ensures) in
    let cover : Covers next len 0 next 0 all = subst (λ (n : ℕ). Covers next len 0 next 0 n) is (covers_before 0 next len) in
    each_then g.T.Tail.numbers g.T.Tail.told g.T.Tail.faults c.args.outlets.queue.now.capacity c.args.outlets.desk.now.capacity c.args.when tt c.turn_each_of-2.result next len 0 next 0 all
    (laning c.args.self.now) (laning c.turn_each_of.new.self) (laning c.turn_each_of-2.new.self)
    (omega arith) (omega (arith, is)) (omega arith) (omega (arith, is, c.min-next.ensures)) (inr (omega arith)) (on_any c.turn_each_of-2.result cover) c.in_ok-turn_each_of.ensures c.turn_each_of-2.ensures
