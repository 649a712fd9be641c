use Rattle.scanned_files.proofs.Listings.{are_shown}
use Rattle.scanned_files.proofs.laws.entries_tell_what_became_of_files.Goals as goal

pub returns : goal.returns
returns c = λ run are. are_shown run are
