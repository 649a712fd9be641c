use Rattle.std.proofs.Common.{◌≡◌, ℕ, ◌<◌, true}
use Rattle.registry_log.specs.Header.{fits}
use Rattle.registry_log.proofs.header.read_header.Given as goal

abbrev pub invariant-loop-at : goal.invariant-loop-at
invariant-loop-at l = (place : ℕ) → 0 < place → place < l.at → fits l.front place ≡ true
