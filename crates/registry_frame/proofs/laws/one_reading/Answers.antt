use Rattle.std.proofs.Common.{sym, ◌∙◌}
use Rattle.registry_frame.proofs.OneReading.{same_operations}
use Rattle.registry_frame.proofs.laws.one_reading.Goals as goal

pub returns : goal.returns
returns c = λ ops others body one other. same_operations ops others one.each other.each (sym one.spelled ∙ other.spelled)
