use Rattle.std.proofs.Common.{◌∷◌, []}
use Rattle.lanes.specs.Laning.{laning}
use Rattle.rounds.specs.WordsOf.{tails_of}
use Rattle.run_steps.specs.ClosesTail.{readers}
use Rattle.run_steps.proofs.ClosesSome.{closes_by_one, closes_by_two, closes_none}
use Rattle.run_steps.proofs.leave.close_lane.Goals as goal

pub harvesters-init : goal.harvesters-init
harvesters-init g c = closes_none (tails_of g.F.Tail.Tail) (readers g.F.Folder c.args.folder.now (laning c.args.lane.now ∷ []))

pub harvesters-preserved : goal.harvesters-preserved
harvesters-preserved g c =
    let before = readers g.F.Folder c.harvesters.folder (laning c.harvesters.lane ∷ []) in
    let after = readers g.F.Folder c.close_tail.new.folder (laning c.close_tail.new.lane ∷ []) in
    closes_by_two (tails_of g.F.Tail.Tail) (readers g.F.Folder c.args.folder.now (laning c.args.lane.now ∷ [])) before after c.harvesters.invariant
    (closes_by_one (tails_of g.F.Tail.Tail) before after c.close_tail.ensures.closes.0 c.close_tail.ensures.closes.1)
