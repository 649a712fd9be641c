use Rattle.std.proofs.Common.{◌≡◌, ◌+◌, ◌++◌, [], drop, map}
use Rattle.lumber_frame.specs.Acknowledged.{acknowledgements, answers, payloads_by}
use Rattle.lumber_frame.proofs.acknowledgements.acknowledged.Given as goal

abbrev pub invariant-loop-before : goal.invariant-loop-before
invariant-loop-before l =
    let windows = map (λ w. w.items) l.window-items in
    let given = answers windows l.talk [] 0 (acknowledgements l.received.items) in
    l.payloads.items ++ payloads_by given (l.before + 1) (drop l.before windows) ≡ payloads_by given 1 windows
