use Rattle.std.proofs.Common.{◌≡◌, ◌+◌, ◌-◌, ◌≤◌, None, length}
use Rattle.keeper.specs.Collecting.{Gathers}
use Rattle.keeper.proofs.keeper.Keeper.collect.Given as goal

abbrev pub invariant-notes : goal.invariant-notes
invariant-notes g l = record {
  gathers : Gathers l.initial.self l.self;
  none_held : l.self.held ≡ None;
  desk : l.self.pass.desk ≡ l.initial.self.pass.desk;
  count : length l.self.pass.got ≡ length l.initial.self.pass.got + l.count;
  within : l.count ≤ 8192;
  nothing : l.count ≡ 0 → l.self ≡ l.initial.self;
}

abbrev pub decreases-notes : goal.decreases-notes
decreases-notes g l = 8192 - l.count
