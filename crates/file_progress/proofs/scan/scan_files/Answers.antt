use Rattle.file_progress.proofs.Scans.{scan_told}
use Rattle.file_progress.proofs.scan.scan_files.Goals as goal

pub returns-in-Ok-ask_files-clause-scanned : goal.returns-in-Ok-ask_files-clause-scanned
returns-in-Ok-ask_files-clause-scanned g c =
    scan_told c.args.inputs.now (g.F.Folder.told c.args.folder.now) (g.F.Folder.told c.list_files.new.folder) (g.F.Folder.told c.ask_files.new.folder) c.in-Ok.listed.items c.in-Ok-ask_files.keyed
    c.parted.result c.in-Ok.ensures.scanned c.in-Ok-ask_files.ensures.asked c.parted.ensures.parts c.parted.ensures.small
