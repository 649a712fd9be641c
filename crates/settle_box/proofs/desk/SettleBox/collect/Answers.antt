use Rattle.std.proofs.Common.{sym, subst}
use Rattle.pass_sums.specs.Share.{IsWhole}
use Rattle.pass_sums.proofs.Shares.{begins_whole}
use Rattle.settle_box.proofs.Moves.{collects, allows}
use Rattle.settle_box.proofs.desk.SettleBox.collect.Goals as goal

pub pop_as-requires-clause-rule : goal.pop_as-requires-clause-rule
pop_as-requires-clause-rule g c = (collects _ _ (subst IsWhole (sym c.pass.invariant.may) begins_whole), allows _ _)
