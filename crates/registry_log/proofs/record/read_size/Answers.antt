use Rattle.std.proofs.Common.{refl, sym, arith}
use Rattle.registry_log.proofs.Digits.{digits_padded, padded_are_digits}
use Rattle.registry_log.proofs.record.read_size.Goals as goal

pub returns-then-not-are_digits : goal.returns-then-not-are_digits
returns-then-not-are_digits c = λ size low same. let digits = c.if-not-are_digits.ensures.1 (padded_are_digits c.args.digits.now size low same).0 in cc digits

pub returns-in_default : goal.returns-in_default
returns-in_default c = λ size low same. let are = padded_are_digits c.args.digits.now size low same in c.in_default.ensures (omega (arith, are.1, low))

pub returns-then-size : goal.returns-then-size
returns-then-size c = λ size low same. let are = padded_are_digits c.args.digits.now size low same in omega (arith, are.1, low, c.in-Some.ensures.1)

pub returns : goal.returns
returns c = (omega arith, digits_padded c.args.digits.now c.in-Some.size (c.if-not-are_digits.ensures.0 refl) c.requires (sym c.in-Some.ensures.1) (omega arith))
