use Rattle.std.proofs.Common.{◌+◌, ◌-◌, arith}
use Rattle.lanes.specs.Laning.{laning}
use Rattle.lanes.specs.declared.turning.Refused.{Refused}
use Rattle.lanes.proofs.Passing.{err_of, ok_of, on_as, on_at_most, on_of_none, on_refused_as, on_then}
use Rattle.lanes.proofs.lane.Lane.turn_on.Goals as goal

pub passes-init : goal.passes-init
passes-init g c =
    let self = laning c.args.self.now in
    let queue = c.args.outlets.queue.now.capacity in
    let box = c.args.outlets.desk.now.capacity in
    record {
      on = on_at_most g.T.Tail.numbers g.T.Tail.told g.T.Tail.faults queue box c.args.when (ok_of (Unit {0}) Refused tt) 0 (c.args.most - c.args.most) self self (omega arith)
          (on_of_none g.T.Tail.numbers g.T.Tail.told g.T.Tail.faults queue box c.args.when tt self c.requires.none_held);
      left = omega arith;
    }

pub returns-in_err-turned : goal.returns-in_err-turned
returns-in_err-turned g c =
    let old = laning c.args.self.now in
    let mid = laning c.passes.self in
    let new = laning c.turn_those.new.self in
    let queue = c.args.outlets.queue.now.capacity in
    let box = c.args.outlets.desk.now.capacity in
    let error = c.in_err-turned.field-0.0 in
    let before = c.args.most - c.passes.left in
    on_refused_as g.T.Tail.numbers g.T.Tail.told g.T.Tail.faults queue box c.args.when _ c.from_residual.result c.from_residual.ensures.1 error c.args.most old new
    (on_at_most g.T.Tail.numbers g.T.Tail.told g.T.Tail.faults queue box c.args.when (err_of _ Refused error) (before + c.passes.left) c.args.most old new (omega (arith, c.passes.invariant.left))
    (on_then g.T.Tail.numbers g.T.Tail.told g.T.Tail.faults queue box c.args.when tt (err_of _ Refused error) before c.passes.left old mid new c.passes.invariant.on c.in_err-turned.ensures.turned))

pub returns-then-turned-eq0 : goal.returns-then-turned-eq0
returns-then-turned-eq0 g c =
    let old = laning c.args.self.now in
    let mid = laning c.passes.self in
    let new = laning c.turn_those.new.self in
    let queue = c.args.outlets.queue.now.capacity in
    let box = c.args.outlets.desk.now.capacity in
    let before = c.args.most - c.passes.left in
    let turned = c.in_ok-turned.turned in
    on_at_most g.T.Tail.numbers g.T.Tail.told g.T.Tail.faults queue box c.args.when (ok_of (Unit {0}) Refused tt) (before + turned) c.args.most old new (omega (arith, c.passes.invariant.left, c.in_ok-turned.ensures.at_most))
    (on_as g.T.Tail.numbers g.T.Tail.told g.T.Tail.faults queue box c.args.when turned tt (before + turned) old new
    (on_then g.T.Tail.numbers g.T.Tail.told g.T.Tail.faults queue box c.args.when tt (ok_of _ Refused turned) before turned old mid new c.passes.invariant.on c.in_ok-turned.ensures.turned))

pub passes-preserved : goal.passes-preserved
passes-preserved g c =
    let old = laning c.args.self.now in
    let mid = laning c.passes.self in
    let new = laning c.turn_those.new.self in
    let queue = c.args.outlets.queue.now.capacity in
    let box = c.args.outlets.desk.now.capacity in
    let before = c.args.most - c.passes.left in
    let turned = c.in_ok-turned.turned in
    record {
      on = on_at_most g.T.Tail.numbers g.T.Tail.told g.T.Tail.faults queue box c.args.when (ok_of (Unit {0}) Refused tt) (before + turned) (c.args.most - (c.passes.left - turned)) old new (omega (arith, c.passes.invariant.left, c.in_ok-turned.ensures.at_most))
          (on_as g.T.Tail.numbers g.T.Tail.told g.T.Tail.faults queue box c.args.when turned tt (before + turned) old new
          (on_then g.T.Tail.numbers g.T.Tail.told g.T.Tail.faults queue box c.args.when tt (ok_of _ Refused turned) before turned old mid new c.passes.invariant.on c.in_ok-turned.ensures.turned));
      left = omega (arith, c.passes.invariant.left);
    }

pub returns : goal.returns
returns g c =
    on_at_most g.T.Tail.numbers g.T.Tail.told g.T.Tail.faults c.args.outlets.queue.now.capacity c.args.outlets.desk.now.capacity c.args.when (ok_of (Unit {0}) Refused tt) (c.args.most - c.passes.left) c.args.most
    (laning c.args.self.now) (laning c.passes.self) (omega arith) c.passes.invariant.on
