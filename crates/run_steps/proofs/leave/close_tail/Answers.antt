use Rattle.lanes.specs.Laning.{laning}
use Rattle.rounds.specs.WordsOf.{tails_of}
use Rattle.run_steps.specs.FolderSeen.{seen_in}
use Rattle.run_steps.proofs.ClosesSome.{closes_at}
use Rattle.run_steps.proofs.leave.close_tail.Goals as goal

pub returns-clause-closes : goal.returns-clause-closes
returns-clause-closes g c = (
  c.release_at-harvester.result,
  closes_at (tails_of g.F.Tail.Tail) c.args.seat c.release_at-harvester.result (laning c.args.lane.now) (laning c.release_at-harvester.new.self)
      (seen_in g.F.Folder c.args.folder.now) (seen_in g.F.Folder c.release.new.folder) c.release_at-harvester.ensures
      (record {
        told = c.release.ensures.told;
        states_go_on = c.release.ensures.states_go_on;
        open_tails = c.release.ensures.open_tails;
        counts_faults = c.release.ensures.counts_faults;
      }) c.release.ensures.in_epoch,
)
