use Rattle.std.proofs.Common.{arith}
use Rattle.registry_store.proofs.Appended.{holds_more, next_part, none_appended, one_more}
use Rattle.registry_store.proofs.records.append_all.Goals as goal

pub records-init : goal.records-init
records-init g c = record {
  within = omega arith;
  gate = c.requires.end;
  appended = λ generation rows holds few. holds;
  leaves = λ generation rows holds few. none_appended g.D.Disk.contents g.D.Disk.images g.D.Disk.moment g.D.Disk.images_since c.args.disk.now generation rows c.args.ops.now c.args.end (g.met.D.Disk.only_now c.args.disk.now) holds;
  told = λ told. told;
  faults = omega arith;
}

pub returns-in_err-gate-clause-each_moment : goal.returns-in_err-gate-clause-each_moment
returns-in_err-gate-clause-each_moment g c = λ generation rows holds few.
    let next = next_part c.args.ops.now c.records.done c.in_ok-front.front.count c.records.invariant.within c.in_ok-front.ensures.within in
    one_more g.D.Disk.contents g.D.Disk.images g.D.Disk.moment g.D.Disk.images_since c.args.disk.now c.records.disk c.append_body.new.disk generation rows c.args.ops.now c.records.done c.in_ok-front.front.count c.records.gate _
    next few (c.records.invariant.appended generation rows holds few) (c.records.invariant.leaves generation rows holds few) c.append_body.ensures.each_moment

pub records-preserved : goal.records-preserved
records-preserved g c =
    let next = next_part c.args.ops.now c.records.done c.in_ok-front.front.count c.records.invariant.within c.in_ok-front.ensures.within in
    record {
      within = next.within;
      gate = c.in_ok-gate.ensures.next_in_range;
      appended = λ generation rows holds few. holds_more g.D.Disk.contents g.D.Disk.images g.D.Disk.moment g.D.Disk.images_since c.records.disk c.append_body.new.disk generation rows c.args.ops.now c.records.done c.in_ok-front.front.count c.records.gate c.in_ok-gate.gate _
          next few (c.records.invariant.appended generation rows holds few) c.in_ok-gate.ensures.appended c.in_ok-gate.ensures.opened c.in_ok-gate.ensures.durable;
      leaves = λ generation rows holds few. one_more g.D.Disk.contents g.D.Disk.images g.D.Disk.moment g.D.Disk.images_since c.args.disk.now c.records.disk c.append_body.new.disk generation rows c.args.ops.now c.records.done c.in_ok-front.front.count c.records.gate _
          next few (c.records.invariant.appended generation rows holds few) (c.records.invariant.leaves generation rows holds few) c.append_body.ensures.each_moment;
      told = λ told. c.append_body.ensures.told (c.records.invariant.told told);
      faults = omega (arith, c.records.invariant.faults, c.append_body.ensures.faults_never_fall);
    }
