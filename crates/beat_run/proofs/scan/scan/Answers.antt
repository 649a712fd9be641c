use Rattle.run_steps.proofs.Clocks.{clock_by_moment}
use Rattle.std.proofs.Common.{◌<◌, length}
use Rattle.prospect.specs.ListedFiles.{IsListedInRange}
use Rattle.beat_run.proofs.ScanShown.{has_asked, parted_each, parted_shows, scanned_parts, whatever_came}
use Rattle.beat_run.proofs.scan.scan.Goals as goal

-- ---- the files that have a key were parted

pub returns-in-Ok-ask_files-clause-clock_goes_on : goal.returns-in-Ok-ask_files-clause-clock_goes_on
returns-in-Ok-ask_files-clause-clock_goes_on g c = clock_by_moment _ _ _ c.now-now.ensures.told

pub returns-in-Ok-ask_files-clause-moment_given_first : goal.returns-in-Ok-ask_files-clause-moment_given_first
returns-in-Ok-ask_files-clause-moment_given_first g c = whatever_came c.part_files.result (c.now-now.result.0, c.now-now.ensures.told)

pub returns-in-Ok-ask_files-clause-scanned : goal.returns-in-Ok-ask_files-clause-scanned
returns-in-Ok-ask_files-clause-scanned g c =
    let listed = c.in-Ok.listed.items in
    scanned_parts c.part_files.result c.in-Ok-ask_files.keyed c.part_files.ensures.parts c.args.inputs.now (g.F.Folder.told c.args.folder.now) (g.F.Folder.told c.ask_files.new.folder) listed
    (has_asked c.args.inputs.now (g.F.Folder.told c.args.folder.now) (g.F.Folder.told c.list_files.new.folder) (g.F.Folder.told c.ask_files.new.folder) listed c.in-Ok-ask_files.keyed
    c.in-Ok.ensures.scanned c.in-Ok.ensures.keyed c.in-Ok-ask_files.ensures.asked)
    c.part_files.ensures.gone c.part_files.ensures.small

pub returns-in-Ok-ask_files-clause-of_inputs : goal.returns-in-Ok-ask_files-clause-of_inputs
returns-in-Ok-ask_files-clause-of_inputs g c =
    parted_each c.part_files.result c.in-Ok-ask_files.keyed c.part_files.ensures.parts (λ one. one.input < length c.args.inputs.now) c.in-Ok-ask_files.ensures.kept_of_inputs

pub returns-in-Ok-ask_files-clause-in_range : goal.returns-in-Ok-ask_files-clause-in_range
returns-in-Ok-ask_files-clause-in_range g c =
    parted_each c.part_files.result c.in-Ok-ask_files.keyed c.part_files.ensures.parts IsListedInRange
    (c.in-Ok-ask_files.ensures.in_range c.requires.short_ids (c.in-Ok.ensures.in_range c.requires.short_ids))

pub returns-in-Ok-ask_files-clause-shows_end : goal.returns-in-Ok-ask_files-clause-shows_end
returns-in-Ok-ask_files-clause-shows_end g c =
    let listed = c.in-Ok.listed.items in
    parted_shows c.args.inputs.now c.args.rows.now (g.F.Folder.told c.args.folder.now) (g.F.Folder.told c.ask_files.new.folder) listed c.in-Ok-ask_files.keyed c.part_files.result
    (has_asked c.args.inputs.now (g.F.Folder.told c.args.folder.now) (g.F.Folder.told c.list_files.new.folder) (g.F.Folder.told c.ask_files.new.folder) listed c.in-Ok-ask_files.keyed
    c.in-Ok.ensures.scanned c.in-Ok.ensures.keyed c.in-Ok-ask_files.ensures.asked)
    c.part_files.ensures.refused
