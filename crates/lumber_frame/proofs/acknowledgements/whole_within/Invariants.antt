use Rattle.std.proofs.Common.{◌≡◌, ◌+◌, ◌≤◌, drop, map}
use Rattle.lumber_frame.specs.Acknowledged.{whole_within}
use Rattle.lumber_frame.proofs.acknowledgements.whole_within.Given as goal

abbrev pub invariant-loop-window : goal.invariant-loop-window
invariant-loop-window l =
    let windows = map (λ w. w.items) l.windows in
    (l.whole ≤ l.window-index) × (l.whole + whole_within (drop l.window-index windows) l.left ≡ whole_within windows l.out)
