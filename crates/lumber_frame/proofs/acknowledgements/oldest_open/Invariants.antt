use Rattle.std.proofs.Common.{◌≡◌, ◌≤◌, ℕ, List, drop, get_or, length, map, take}
use Rattle.lumber_frame.specs.Acknowledged.{Answer, greatest, oldest_open}
use Rattle.lumber_frame.proofs.acknowledgements.oldest_open.Given as goal

abbrev pub invariant-loop-before : goal.invariant-loop-before
invariant-loop-before l =
    (given : List Answer) → ((window : ℕ) → window ≤ length l.windows → get_or l.mosts window 0 ≡ greatest window given) →
    oldest_open given l.before (drop l.before (take l.whole (map (λ w. w.items) l.windows))) ≡ oldest_open given 0 (take l.whole (map (λ w. w.items) l.windows))
