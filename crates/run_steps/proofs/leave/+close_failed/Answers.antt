use Rattle.std.proofs.Common.{Bool, List, ◌∷◌, ◌||◌, ap, subst, sym, ◌∙◌}
use Rattle.lanes.specs.Laning.{laning}
use Rattle.lanes.specs.declared.lane.Lane.{Lane}
use Rattle.rounds.specs.Crewed.{lanings}
use Rattle.rounds.specs.WordsOf.{tails_of}
use Rattle.run_steps.specs.ClosesTail.{ClosesFailed, readers}
use Rattle.run_steps.specs.FolderSeen.{seen_in}
use Rattle.run_steps.proofs.ClosesSome.{failed_lanes}
use Rattle.run_steps.proofs.leave.+close_failed.Goals as goal

pub returns-then-here : goal.returns-then-here
returns-then-here g t c =
    let after = readers g.F.Folder c.close_failed-later.new.folder (laning c.close_failed_of-here.new.lane ∷ lanings c.close_failed-later.new.lanes) in
    let both = failed_lanes (tails_of g.F.Tail.Tail) c.close_failed_of-here.result c.close_failed-later.result (laning c.in-Some.first.now) (laning c.close_failed_of-here.new.lane)
    (lanings c.in-Some.rest.now) (lanings c.close_failed-later.new.lanes) (seen_in g.F.Folder c.args.folder.now) (seen_in g.F.Folder c.close_failed_of-here.new.folder)
    (seen_in g.F.Folder c.close_failed-later.new.folder) c.close_failed_of-here.ensures c.close_failed-later.ensures in
    subst (λ (l : List (Lane g.row.F-Tail.Denot)). ClosesFailed (tails_of g.F.Tail.Tail) c.close_failed_of-here.result (readers g.F.Folder c.args.folder.now (lanings l)) after) (sym c.in-Some.ensures.cases.0)
    (subst (λ (b : Bool). ClosesFailed (tails_of g.F.Tail.Tail) b (readers g.F.Folder c.args.folder.now (laning c.in-Some.first.now ∷ lanings c.in-Some.rest.now)) after)
    (ap (λ (b : Bool). b || c.close_failed-later.result) c.if-here.true ∙ sym c.if-here.true) both)

pub returns-else-here : goal.returns-else-here
returns-else-here g t c =
    let after = readers g.F.Folder c.close_failed-later.new.folder (laning c.close_failed_of-here.new.lane ∷ lanings c.close_failed-later.new.lanes) in
    let both = failed_lanes (tails_of g.F.Tail.Tail) c.close_failed_of-here.result c.close_failed-later.result (laning c.in-Some.first.now) (laning c.close_failed_of-here.new.lane)
    (lanings c.in-Some.rest.now) (lanings c.close_failed-later.new.lanes) (seen_in g.F.Folder c.args.folder.now) (seen_in g.F.Folder c.close_failed_of-here.new.folder)
    (seen_in g.F.Folder c.close_failed-later.new.folder) c.close_failed_of-here.ensures c.close_failed-later.ensures in
    subst (λ (l : List (Lane g.row.F-Tail.Denot)). ClosesFailed (tails_of g.F.Tail.Tail) c.close_failed-later.result (readers g.F.Folder c.args.folder.now (lanings l)) after) (sym c.in-Some.ensures.cases.0)
    (subst (λ (b : Bool). ClosesFailed (tails_of g.F.Tail.Tail) b (readers g.F.Folder c.args.folder.now (laning c.in-Some.first.now ∷ lanings c.in-Some.rest.now)) after)
    (ap (λ (b : Bool). b || c.close_failed-later.result) c.if-here.false) both)
