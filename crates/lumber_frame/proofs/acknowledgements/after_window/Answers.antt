use Rattle.std.proofs.Common.{◌+◌, length, ap, arith}
use Rattle.std.proofs.lemmas.Grind.{common_steps}
use Rattle.std.proofs.lemmas.List.Sums.{sum_by_more_le}
use Rattle.lumber_frame.proofs.Answering.{length-window}
use Rattle.lumber_frame.proofs.acknowledgements.after_window.Goals as goal
use Rattle.lumber_frame.proofs.acknowledgements.after_window.Goals.{then-left-lt10-via-then-left-lt10, then-left-lt10-via-else-left-lt10+then-left-size}

pub returns-then-left-lt10 : goal.returns-then-left-lt10
returns-then-left-lt10 c = λ long.
    let whole = length-window c.args.window.now in
    let more = sum_by_more_le (λ payload. 10 + length payload) c.args.window.now c.loop-payload.payload-index c.payload-item.result c.loop-payload-test.true in
    let item = ap length c.payload-item.is in
    let size = ap length c.bytes-size.ensures in
    elim c.then-left-lt10.branch [
      | then-left-lt10-via-then-left-lt10 w ↦ absurd (omega (arith, whole, more, item, size))
      | then-left-lt10-via-else-left-lt10+then-left-size w ↦ absurd (omega (arith, whole, more, item, size))
    ]

pub returns : goal.returns
returns c =
    let whole = length-window c.args.window.now in
    grind (arith, common_steps)
