use Rattle.findings.proofs.Findings.{files_found}
use Rattle.findings.proofs.seeing.see_files.Goals as goal

pub returns-in-Some-clause-seen : goal.returns-in-Some-clause-seen
returns-in-Some-clause-seen g c =
    files_found (g.Y.System.told c.args.system.now) c.args.inputs.now (g.F.Folder.told c.args.folder.now) (g.F.Folder.told c.listed_files.new.folder) (g.F.Folder.told c.see_listed.new.folder)
    c.in-Some.listed c.in_ok-globs.globs c.see_listed.result
    (rw c.in-Some.is at c.in_ok-listed.ensures.listed)
    (rw (c.in-Some.is, c.in_ok-asked.ensures) at c.in_ok-globs.ensures)
    c.see_listed.ensures.seen
    c.see_listed.ensures.globs
