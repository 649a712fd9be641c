use Rattle.std.proofs.Common.{◌≡◌, ◌+◌, ◌-◌, ◌≤◌, length, map, vec_len}
use Rattle.lumber_frame.proofs.Answering.{AreGreatest}
use Rattle.lumber_frame.proofs.acknowledgements.greatest_numbers.Given as goal

abbrev pub invariant-loop-number : goal.invariant-loop-number
invariant-loop-number l = record {
  within : l.place ≤ length l.received;
  each : vec_len l.mosts ≡ length l.windows + 1;
  so_far : AreGreatest (map (λ w. w.items) l.windows) l.talk l.received l.place l.mosts.items;
}

abbrev pub decreases-loop-number : goal.decreases-loop-number
decreases-loop-number l = length l.received - l.place
