use Rattle.std.proofs.Common.{rules}
use Rattle.wire_base.specs.Decimal.{IsDecimal}
use Rattle.wire_base.proofs.Decimals.{utf8, parsed}
use Rattle.wire_base.proofs.decimal.read_decimal.Goals as goal

pub returns-in-Ok : goal.returns-in-Ok
returns-in-Ok c =
    let is : IsDecimal c.args.bytes.now = search rules in
    rw c.ok.ensures.value (parsed c.args.bytes.now _ (rw c.in-Ok.ensures.cases.0 at c.parse.ensures.value.0) is)

pub returns-in-Err : goal.returns-in-Err
returns-in-Err c = λ both. c.in-Err.ensures.cases.0 (utf8 c.args.bytes.now both.0)
