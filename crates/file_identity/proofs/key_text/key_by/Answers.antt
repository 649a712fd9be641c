use Rattle.std.proofs.Common.{rules, append_assoc}
use Rattle.file_identity.proofs.key_text.key_by.Goals as goal

pub returns : goal.returns
returns c = simp append_assoc (search rules)
