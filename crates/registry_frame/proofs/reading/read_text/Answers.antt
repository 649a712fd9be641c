use Rattle.std.proofs.Common.{◌∙◌}
use Rattle.registry_frame.proofs.Spellings.{tokens_of_body}
use Rattle.registry_frame.proofs.reading.read_text.Goals as goal

pub returns-clause-reads : goal.returns-clause-reads
returns-clause-reads c = λ ops is. c.read_operations.ensures.reads ops is.each (c.in_ok-reader.ensures.ok ∙ tokens_of_body ops c.args.text.now is)
