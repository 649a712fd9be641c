use Rattle.registry_frame.proofs.Fields.{no_longer, passed_token}
use Rattle.registry_frame.proofs.reading.skip_token.Goals as goal

pub returns-clause-passed : goal.returns-clause-passed
returns-clause-passed c = λ token rest begins. passed_token c.next.result c.args.reader.now c.next.new.self token rest c.next.ensures.value begins

pub returns-clause-no_longer : goal.returns-clause-no_longer
returns-clause-no_longer c = no_longer c.next.result c.args.reader.now c.next.new.self c.next.ensures.value
