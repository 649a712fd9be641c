use Rattle.std.proofs.Common.{arith, refl, sym, ◌∙◌}
use Rattle.registry_log.proofs.Fronts.{blank_front, closed_front, header_front, unclosed_front, wrong_front}
use Rattle.registry_log.proofs.Headers.{header_long}
use Rattle.registry_log.proofs.front.read_front.Goals as goal

pub returns-then-front-le1-clause-front : goal.returns-then-front-le1-clause-front
returns-then-front-le1-clause-front c = λ area is enough. blank_front c.args.front.now area enough (omega arith)

pub returns-then-front-ne123-clause-front : goal.returns-then-front-ne123-clause-front
returns-then-front-ne123-clause-front c = λ area is enough. closed_front c.args.front.now area is (omega arith) c.if-front-ne123.true

pub returns-in-Right-clause-front : goal.returns-in-Right-clause-front
returns-in-Right-clause-front c = λ area is enough. (
  unclosed_front c.args.front.now area is (omega arith) c.if-front-ne123.false,
  header_front c.args.front.now area c.in-Right.generation is enough (c.in-Right.ensures.right c.in-Right.generation refl),
)

pub returns-in-Right-clause-long : goal.returns-in-Right-clause-long
returns-in-Right-clause-long c = λ generation same. header_long c.args.front.now c.in-Right.generation (c.in-Right.ensures.right c.in-Right.generation refl)

pub returns-in-Broken-clause-front : goal.returns-in-Broken-clause-front
returns-in-Broken-clause-front c = λ area is enough. (
  unclosed_front c.args.front.now area is (omega arith) c.if-front-ne123.false,
  sym (wrong_front c.args.front.now area is enough) ∙ c.in-Broken.ensures.broken c.in-Broken.at refl,
)
