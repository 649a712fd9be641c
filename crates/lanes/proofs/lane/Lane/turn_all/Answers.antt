use lib.ListN.{length-map}
use Rattle.std.proofs.Common.{ℕ, subst, sym, arith}
use Rattle.lanes.specs.Laning.{laning}
use Rattle.lanes.specs.Passing.{TurnsEach}
use Rattle.lanes.specs.declared.seat.Seat.{Seat}
use Rattle.lanes.specs.declared.turning.Refused.{Refused}
use Rattle.lanes.proofs.Keeping.{as_many}
use Rattle.lanes.proofs.Passing.{all_refused_as, all_then, err_of, ok_of}
use Rattle.lanes.proofs.lane.Lane.turn_all.Goals as goal

pub returns-in_err-turn_each : goal.returns-in_err-turn_each
returns-in_err-turn_each g c =
    let old = laning c.args.self.now in
    let new = laning c.turn_each.new.self in
    let queue = c.args.outlets.queue.now.capacity in
    let box = c.args.outlets.desk.now.capacity in
    let error = c.in_err-turn_each.field-0.0 in
    all_refused_as g.T.Tail.numbers g.T.Tail.told g.T.Tail.faults queue box c.args.when _ c.from_residual.result c.from_residual.ensures.1 error old new
    (subst (λ (n : ℕ). TurnsEach g.T.Tail.numbers g.T.Tail.told g.T.Tail.faults queue box c.args.when (err_of (Unit {0}) Refused error) 0 n old new)
    (sym (length-map c.args.self.now.seats.items (λ (s : Seat g.row.T.Denot). s.harvester))) c.in_err-turn_each.ensures)

pub returns : goal.returns
returns g c =
    let old = laning c.args.self.now in
    let mid = laning c.turn_each.new.self in
    let new = laning c.turn_on.new.self in
    let queue = c.args.outlets.queue.now.capacity in
    let box = c.args.outlets.desk.now.capacity in
    let many = as_many g.T.Tail.numbers g.T.Tail.told g.T.Tail.faults old mid c.in_ok-turn_each.ensures.turns.keeps in
    let first = subst (λ (n : ℕ). TurnsEach g.T.Tail.numbers g.T.Tail.told g.T.Tail.faults queue box c.args.when (ok_of (Unit {0}) Refused tt) 0 n old mid)
    (sym (length-map c.args.self.now.seats.items (λ (s : Seat g.row.T.Denot). s.harvester))) c.in_ok-turn_each.ensures in
    all_then g.T.Tail.numbers g.T.Tail.told g.T.Tail.faults queue box c.args.when tt c.turn_on.result old mid new first _
    (omega (arith, many, length-map c.turn_each.new.self.seats.items (λ (s : Seat g.row.T.Denot). s.harvester), c.len.ensures, c.min-more.ensures)) c.turn_on.ensures
