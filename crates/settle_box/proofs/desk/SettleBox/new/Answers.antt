use Rattle.settle_box.proofs.Begins.{begins}
use Rattle.settle_box.proofs.Passing.{sides}
use Rattle.settle_box.proofs.desk.SettleBox.new.Goals as goal

pub ruled-requires-clause-rule : goal.ruled-requires-clause-rule
ruled-requires-clause-rule c = begins

pub another-other-requires-clause-rule : goal.another-other-requires-clause-rule
another-other-requires-clause-rule c = sides _ _
