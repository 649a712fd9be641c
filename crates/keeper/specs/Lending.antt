-- The pass that a keeper lends (this project's profile): what is left in it is the keeper's pass then, and nothing else changes.
use Rattle.std.specs.Borrow.{Fml, Lends, MutBor}
use Rattle.settle_box.specs.Collector.{Collector}
use Rattle.settle_box.specs.contracts.pass.CollectPass.{the_row as pass_row}
use Rattle.keeper.specs.Keeping.{Keeping}
use Rattle.keeper.specs.contracts.keeper.Keeper.{the_row}

abbrev pub LendsPass : MutBor Keeping → MutBor Collector → Fml
LendsPass keeper pass = Lends the_row pass_row keeper pass (λ left. record keeper.now { pass = left })
