use Rattle.std.proofs.Common.{◌-◌, ◌≡◌, ◌≤◌}
use Rattle.rounds.specs.KeeperTurns.{KeepsSoFar}
use Rattle.rounds.specs.Words.{disk_words}
use Rattle.rounds.proofs.storing.Storing.run.Given as goal

abbrev pub invariant-turns : goal.invariant-turns
invariant-turns g l = record {
  so_far : KeepsSoFar (disk_words g.D.Disk.contents g.D.Disk.images g.D.Disk.moment g.D.Disk.images_since g.D.Disk.faults) l.turns l.fn.self l.self;
  pass : l.self.keeper.now.pass.desk ≡ l.desk.id;
  most : l.turns ≤ 256;
}

abbrev pub decreases-turns : goal.decreases-turns
decreases-turns g l = 256 - l.turns
