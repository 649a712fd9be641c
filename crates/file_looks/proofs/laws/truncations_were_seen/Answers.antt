use Rattle.file_looks.proofs.Going.{seen_earlier}
use Rattle.file_looks.proofs.laws.truncations_were_seen.Goals as goal

pub returns : goal.returns
returns c = seen_earlier
