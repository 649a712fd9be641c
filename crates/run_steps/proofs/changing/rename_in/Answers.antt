use Rattle.lanes.specs.Changing.{HasRenamed}
use Rattle.run_steps.proofs.ChangesMade.{if_there}
use Rattle.run_steps.proofs.changing.rename_in.Goals as goal

pub returns-clause-renames : goal.returns-clause-renames
returns-clause-renames g c =
    if_there c.args.slot c.args.lanes.now c.index-lanes-lane.result c.rename.new.self c.requires.some_lanes (HasRenamed g.T.Tail.numbers g.T.Tail.told c.args.path)
    c.rename.result c.rename.ensures.renamed c.rename.ensures.none c.rename.ensures.kept
