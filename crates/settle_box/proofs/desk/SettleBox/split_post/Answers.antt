use Rattle.settle_box.proofs.Naming.{names}
use Rattle.settle_box.proofs.desk.SettleBox.split_post.Goals as goal

pub another-requires-clause-rule : goal.another-requires-clause-rule
another-requires-clause-rule c = names _ _ c.pass.invariant.may c.pass.invariant.named
