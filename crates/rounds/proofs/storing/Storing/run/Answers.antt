use Rattle.std.proofs.Common.{ap, ◌∙◌, arith}
use Rattle.rounds.specs.Words.{disk_words}
use Rattle.rounds.specs.declared.storing.Stored.{Stored}
use Rattle.rounds.proofs.KeeperSteps.{pass_still, ran_all, ran_on, so_far_begins, so_far_on}
use Rattle.rounds.proofs.storing.Storing.run.Goals as goal

pub turns-init : goal.turns-init
turns-init g c = record {
  so_far = so_far_begins (disk_words g.D.Disk.contents g.D.Disk.images g.D.Disk.moment g.D.Disk.images_since g.D.Disk.faults)
      c.args.self.now (record c.args.self.now { stored = c.begun-self.result }) (ap (λ (x : Stored). record c.args.self.now { stored = x }) c.begun-self.ensures) c.requires.open;
  pass = c.requires.of_this_box;
  most = omega arith;
}

pub returns-then-not-turn : goal.returns-then-not-turn
returns-then-not-turn g c = ran_on (disk_words g.D.Disk.contents g.D.Disk.images g.D.Disk.moment g.D.Disk.images_since g.D.Disk.faults)
    c.turns.turns _ c.args.self.now c.turns.self c.turn.new.self c.turns.invariant.so_far c.turns-test.true c.if-not-turn.true c.turn.ensures

pub turns-preserved : goal.turns-preserved
turns-preserved g c =
    let disks = disk_words g.D.Disk.contents g.D.Disk.images g.D.Disk.moment g.D.Disk.images_since g.D.Disk.faults in
    record {
      so_far = so_far_on disks c.turns.turns _ c.args.self.now c.turns.self c.turn.new.self c.turns.invariant.so_far c.if-not-turn.false c.turn.ensures;
      pass = pass_still disks _ c.turns.self c.turn.new.self c.turn.ensures ∙ c.turns.invariant.pass;
      most = omega (arith, c.turns-test.true);
    }

pub returns : goal.returns
returns g c = ran_all (disk_words g.D.Disk.contents g.D.Disk.images g.D.Disk.moment g.D.Disk.images_since g.D.Disk.faults) c.turns.turns c.args.self.now c.turns.self (omega (arith, c.turns-test.false, c.turns.invariant.most)) c.turns.invariant.so_far
