use Rattle.kept_rows.proofs.Supposing.{give_the_whole}
use Rattle.kept_rows.proofs.laws.premises_of_all_slots_give_the_whole.Goals as goal

pub returns : goal.returns
returns c = give_the_whole
