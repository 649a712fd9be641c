use Rattle.kept_rows.proofs.Joining.{adjoined}
use Rattle.kept_rows.proofs.laws.runs_in_a_row_adjoin.Goals as goal

pub returns : goal.returns
returns c = adjoined
