use Rattle.std.proofs.Common.{◌∙◌}
use Rattle.watched_files.proofs.Slots.{cleans_contained, cleans_none}
use Rattle.watched_files.proofs.scan_steps.cleans_at.Goals as goal

pub returns-in-Some : goal.returns-in-Some
returns-in-Some c =
    c.cleans.ensures ∙ cleans_contained c.args.clean.now c.args.prospector.now.files c.in-Some.file.now c.args.slot c.requires.apart c.in-Some.ensures.found c.in-Some.ensures.of_slot

pub returns-in-None : goal.returns-in-None
returns-in-None c = cleans_none c.args.clean.now c.args.prospector.now.files c.args.slot c.in-None.ensures.none
