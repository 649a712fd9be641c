use Rattle.lanes.specs.Changing.{HasStirred}
use Rattle.run_steps.proofs.ChangesMade.{on_changed, on_kept, on_none}
use Rattle.run_steps.proofs.changing.stir_file.Goals as goal

pub returns-clause-stirs : goal.returns-clause-stirs
returns-clause-stirs g c =
    on_changed c.args.slot c.args.lanes.now c.index-lanes-lane.result c.stir.new.self c.requires.some_lanes HasStirred c.stir.result c.stir.ensures.stirred

pub returns-clause-none : goal.returns-clause-none
returns-clause-none g c = on_none c.args.slot c.args.lanes.now c.index-lanes-lane.result c.stir.new.self c.requires.some_lanes c.stir.result c.stir.ensures.none

pub returns-clause-kept : goal.returns-clause-kept
returns-clause-kept g c = on_kept c.args.slot c.args.lanes.now c.index-lanes-lane.result c.stir.new.self c.requires.some_lanes c.stir.result c.stir.ensures.kept
