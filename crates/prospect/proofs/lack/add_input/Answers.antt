use Rattle.prospect.proofs.Lacking.{two_more}
use Rattle.prospect.proofs.lack.add_input.Goals as goal

pub returns : goal.returns
returns c = two_more _ _ _ _ _ c.in_ok-add_of.ensures c.in_ok-add_of-2.ensures
