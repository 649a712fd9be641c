use Rattle.std.proofs.Common.{refl}
use Rattle.spool_queue.proofs.Digits.{digits_are_text, number_parsed}
use Rattle.spool_queue.proofs.head.read_size.Goals as goal

pub returns-in-Ok : goal.returns-in-Ok
returns-in-Ok c = rw c.ok.ensures.value (number_parsed c.args.digits.now _ (rw c.in-Ok.ensures.cases.0 at c.parse.ensures.value.0) c.requires (c.if-not-are_digits.ensures.0 refl))

pub returns-in-Err : goal.returns-in-Err
returns-in-Err c = λ are. c.in-Err.ensures.cases.0 (digits_are_text c.args.digits.now are)
