use Rattle.std.proofs.Common.{inl, ◌∷◌, []}
use Rattle.lanes.specs.Laning.{laning}
use Rattle.rounds.specs.WordsOf.{tails_of}
use Rattle.run_steps.specs.ClosesTail.{readers}
use Rattle.run_steps.specs.FolderSeen.{seen_in}
use Rattle.run_steps.proofs.ClosesSome.{closes_at, closes_by_one}
use Rattle.run_steps.proofs.leave.close_slot.Goals as goal

pub returns-in-Some-clause-closes : goal.returns-in-Some-clause-closes
returns-in-Some-clause-closes g c =
    closes_by_one (tails_of g.F.Tail.Tail) (readers g.F.Folder c.args.folder.now (laning c.args.lane.now ∷ [])) (readers g.F.Folder c.release-in-Some.new.folder (laning c.release.new.self ∷ []))
    c.in-Some.harvester (closes_at (tails_of g.F.Tail.Tail) c.in-Some.ensures.released.seat c.in-Some.harvester (laning c.args.lane.now) (laning c.release.new.self)
    (seen_in g.F.Folder c.args.folder.now) (seen_in g.F.Folder c.release-in-Some.new.folder) c.in-Some.ensures.released.released
    (record {
      told = c.release-in-Some.ensures.told;
      states_go_on = c.release-in-Some.ensures.states_go_on;
      open_tails = c.release-in-Some.ensures.open_tails;
      counts_faults = c.release-in-Some.ensures.counts_faults;
    }) c.release-in-Some.ensures.in_epoch)

pub returns-in-Some-clause-lets_go : goal.returns-in-Some-clause-lets_go
returns-in-Some-clause-lets_go g c = inl (c.in-Some.harvester, c.in-Some.ensures.released)
