use Rattle.std.proofs.Common.{arith}
use Rattle.std.proofs.lemmas.Grind.{common_steps}
use Rattle.outside_mem.proofs.Paths.{decided}
use Rattle.outside_mem.proofs.below.are_names.Goals as goal

pub returns-then-is_empty : goal.returns-then-is_empty
returns-then-is_empty c = decided _ c.args.depth c.args.names.now (grind (arith, common_steps))

pub returns-then-not-is_empty : goal.returns-then-not-is_empty
returns-then-not-is_empty c = decided _ c.args.depth c.args.names.now (grind (arith, common_steps))

pub returns-else-not-is_empty : goal.returns-else-not-is_empty
returns-else-not-is_empty c = decided _ c.args.depth c.args.names.now (grind (arith, common_steps))
