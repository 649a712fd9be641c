use Rattle.registry_frame.proofs.Spellings.{body_text}
use Rattle.registry_frame.proofs.reading.read_body.Goals as goal

pub returns-in_default-clause-refused_only_where_no_body : goal.returns-in_default-clause-refused_only_where_no_body
returns-in_default-clause-refused_only_where_no_body c = λ refused ops is. c.in_default.ensures.cases.0 (body_text ops c.args.bytes.now is)
