use Rattle.std.proofs.Common.{◌≡◌, ◌++◌, take}
use Rattle.lumber_frame.proofs.acknowledgements.append_front.Given as goal

abbrev pub invariant-loop-payload : goal.invariant-loop-payload
invariant-loop-payload l = l.payloads.items ≡ l.initial.payloads.items ++ take l.payload-index l.front
