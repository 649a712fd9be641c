use Rattle.std.proofs.Common.{◌-◌, ◌≤◌, ◌<◌, length, take}
use Rattle.run_steps.specs.Beginning.{beginning}
use Rattle.run_steps.specs.BeginsAll.{BeginsFrom, came_of}
use Rattle.run_steps.specs.KnownKeys.{KnowsAmong}
use Rattle.rounds.specs.WordsOf.{tails_of}
use Rattle.run_steps.proofs.KnownKeys.{keys_in}
use Rattle.run_steps.proofs.beginning.begin_files.Given as goal

abbrev pub invariant-files : goal.invariant-files
invariant-files g l = record {
  within : l.slot ≤ length l.scanned.listed.items;
  begins : BeginsFrom (tails_of g.F.Tail.Tail) l.context.settings.now l.fn.keeper.store.rows l.scanned.now 0
      (take l.slot l.scanned.listed.items) (came_of l.begun)
      (beginning g.F.Folder l.fn.folder l.fn.crew l.fn.keeper)
      (beginning g.F.Folder l.folder l.crew l.keeper);
  some_lanes : 0 < length l.crew.lanes.items;
  knows : KnowsAmong (keys_in l.fn.keeper.store.rows l.scanned.listed.items) l.fn.keeper → KnowsAmong (keys_in l.fn.keeper.store.rows l.scanned.listed.items) l.keeper;
}

abbrev pub decreases-files : goal.decreases-files
decreases-files g l = length l.scanned.listed.items - l.slot
