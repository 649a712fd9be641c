use Rattle.std.proofs.Common.{◌≡◌}
use Rattle.file_progress.specs.OnlyReads.{IsOnlyReadBy}
use Rattle.file_progress.proofs.registry.read_registry.Given as goal

abbrev pub invariant-tries : goal.invariant-tries
invariant-tries g l = record {
  a : IsOnlyReadBy g.D.Disk l.initial.a l.a;
  b : IsOnlyReadBy g.D.Disk l.initial.b l.b;
  moments : g.K.Clock.moments l.clock ≡ g.K.Clock.moments l.initial.clock;
}

abbrev pub decreases-tries : goal.decreases-tries
decreases-tries g l = l.again
