use Rattle.registry_log.proofs.Headers.{digits_are_text, number_parsed}
use Rattle.registry_log.proofs.header.read_number.Goals as goal

pub returns-in-Ok : goal.returns-in-Ok
returns-in-Ok c = rw c.ok.ensures.value (number_parsed c.args.digits.now _ (rw c.in-Ok.ensures.cases.0 at c.parse.ensures.value.0) c.requires.some c.requires.digits)

pub returns-in-Err : goal.returns-in-Err
returns-in-Err c = λ low. c.in-Err.ensures.cases.0 (digits_are_text c.args.digits.now c.requires.digits)
