use Rattle.std.proofs.Common.{◌∙◌, sym}
use Rattle.memory_tests.proofs.Begun.{begun}
use Rattle.memory_tests.proofs.tests.rows.orderly.is_begun.Goals as goal

pub returns : goal.returns
returns c = λ yes. begun c.args.slot c.args.notes.now (sym c.is_any_begin.ensures ∙ yes)
