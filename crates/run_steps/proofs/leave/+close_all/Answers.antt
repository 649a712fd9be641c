use Rattle.std.proofs.Common.{List, ◌∷◌, subst, sym}
use Rattle.lanes.specs.Laning.{laning}
use Rattle.lanes.specs.declared.lane.Lane.{Lane}
use Rattle.rounds.specs.Crewed.{lanings}
use Rattle.rounds.specs.WordsOf.{tails_of}
use Rattle.run_steps.specs.ClosesTail.{ClosesSome, readers}
use Rattle.run_steps.specs.FolderSeen.{seen_in}
use Rattle.run_steps.proofs.ClosesSome.{closes_lanes}
use Rattle.run_steps.proofs.leave.+close_all.Goals as goal

pub returns-clause-closes : goal.returns-clause-closes
returns-clause-closes g t c =
    subst (λ (l : List (Lane g.row.F-Tail.Denot)). ClosesSome (tails_of g.F.Tail.Tail) (readers g.F.Folder c.args.folder.now (lanings l))
    (readers g.F.Folder c.close_all.new.folder (laning c.close_lane.new.lane ∷ lanings c.close_all.new.lanes))) (sym c.in-Some.ensures.cases.0)
    (closes_lanes (tails_of g.F.Tail.Tail) (laning c.in-Some.first.now) (laning c.close_lane.new.lane) (lanings c.in-Some.rest.now) (lanings c.close_all.new.lanes)
    (seen_in g.F.Folder c.args.folder.now) (seen_in g.F.Folder c.close_lane.new.folder) (seen_in g.F.Folder c.close_all.new.folder) c.close_lane.ensures.closes c.close_all.ensures.closes)
