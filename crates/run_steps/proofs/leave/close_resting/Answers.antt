use Rattle.lanes.specs.Laning.{laning}
use Rattle.rounds.specs.WordsOf.{tails_of}
use Rattle.run_steps.specs.FolderSeen.{seen_in}
use Rattle.run_steps.proofs.ClosesSome.{closes_at}
use Rattle.run_steps.proofs.FollowedFiles.{rests_there}
use Rattle.run_steps.proofs.leave.close_resting.Goals as goal

pub returns-clause-closes : goal.returns-clause-closes
returns-clause-closes g c is = record {
  one = c.release_at-harvester.result;
  rests = rests_there c.args.seat (laning c.args.lane.now).harvesters c.release_at-harvester.result (c.is_resting.ensures c.if-not-is_resting.false) c.release_at-harvester.ensures.was;
  closes = closes_at (tails_of g.F.Tail.Tail) c.args.seat c.release_at-harvester.result (laning c.args.lane.now) (laning c.release_at-harvester.new.self)
      (seen_in g.F.Folder c.args.folder.now) (seen_in g.F.Folder c.release.new.folder) c.release_at-harvester.ensures
      (record {
        told = c.release.ensures.told;
        states_go_on = c.release.ensures.states_go_on;
        open_tails = c.release.ensures.open_tails;
        counts_faults = c.release.ensures.counts_faults;
      }) c.release.ensures.in_epoch;
}
