use Rattle.std.proofs.Common.{arith}
use Rattle.beat_config.proofs.Numbers.{number_is, number_few}
use Rattle.beat_config.proofs.number.number.Goals as goal

pub returns-clause-value : goal.returns-clause-value
returns-clause-value c = number_is c.args.most c.args.digits.now c.read_decimal.result c.requires c.if-digits-most.false c.read_decimal.ensures

pub returns-clause-few : goal.returns-clause-few
returns-clause-few c = number_few c.args.digits.now c.read_decimal.result (omega arith) c.read_decimal.ensures
