use Rattle.std.proofs.Common.{◌≡◌, ◌+◌, length, take, sum_by}
use Rattle.lumber_frame.proofs.acknowledgements.after_window.Given as goal

abbrev pub invariant-loop-payload : goal.invariant-loop-payload
invariant-loop-payload l = l.left + 6 + sum_by (λ payload. 10 + length payload) (take l.payload-index l.window) ≡ l.out
