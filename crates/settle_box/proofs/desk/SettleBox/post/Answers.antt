use Rattle.settle_box.proofs.Moves.{posts, allows}
use Rattle.settle_box.proofs.desk.SettleBox.post.Goals as goal

pub push_as-requires-clause-rule : goal.push_as-requires-clause-rule
push_as-requires-clause-rule g c = (posts _ _ _ _ c.pass.invariant.may c.pass.invariant.named c.requires.kind c.requires.range, allows _ _)
