use Rattle.std.proofs.Common.{arith}
use Rattle.event_json.specs.Json.{escape}
use Rattle.report.proofs.Escapes.{code_escape}
use Rattle.report.proofs.escape.write_escape.Goals as goal

pub returns-in-34-clause-told : goal.returns-in-34-clause-told
unfolding escape
returns-in-34-clause-told g c = rw c.in-34.is c.write_all.ensures.told

pub returns-in-92-clause-told : goal.returns-in-92-clause-told
unfolding escape
returns-in-92-clause-told g c = rw c.in-92.is c.write_all-in-92.ensures.told

pub returns-in-8-clause-told : goal.returns-in-8-clause-told
unfolding escape
returns-in-8-clause-told g c = rw c.in-8.is c.write_all-in-8.ensures.told

pub returns-in-9-clause-told : goal.returns-in-9-clause-told
unfolding escape
returns-in-9-clause-told g c = rw c.in-9.is c.write_all-in-9.ensures.told

pub returns-in-10-clause-told : goal.returns-in-10-clause-told
unfolding escape
returns-in-10-clause-told g c = rw c.in-10.is c.write_all-in-10.ensures.told

pub returns-in-12-clause-told : goal.returns-in-12-clause-told
unfolding escape
returns-in-12-clause-told g c = rw c.in-12.is c.write_all-in-12.ensures.told

pub returns-in-13-clause-told : goal.returns-in-13-clause-told
unfolding escape
returns-in-13-clause-told g c = rw c.in-13.is c.write_all-in-13.ensures.told

pub returns-in_default-clause-told : goal.returns-in_default-clause-told
returns-in_default-clause-told g c =
    rw (code_escape c.args.byte c.requires (omega arith) (omega arith) (omega arith) (omega arith) (omega arith) (omega arith) (omega arith))
    (rw (c.hexadecimal_digit-high.ensures, c.hexadecimal_digit-low.ensures) at c.write_all-in_default.ensures.told)
