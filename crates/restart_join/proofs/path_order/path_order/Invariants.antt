use Rattle.std.proofs.Common.{◌≡◌, ℕ, ◌<◌, get_or, length}
use Rattle.restart_join.proofs.path_order.path_order.Given as goal

abbrev pub invariant-loop-place : goal.invariant-loop-place
invariant-loop-place l = record {
  long : length l.order.items ≡ l.place;
  places : (k : ℕ) → k < length l.order.items → get_or l.order.items k 0 ≡ k;
}
