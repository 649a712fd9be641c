use Rattle.scanned_files.proofs.Entries.{are_begun}
use Rattle.scanned_files.proofs.laws.entries_tell_how_files_begin.Goals as goal

pub returns : goal.returns
returns c = λ run are. are_begun run are
