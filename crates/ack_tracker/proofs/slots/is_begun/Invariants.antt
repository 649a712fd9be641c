use Rattle.std.proofs.Common.{◌≡◌, drop}
use Rattle.ack_tracker.specs.Keys.{is_begun}
use Rattle.ack_tracker.proofs.slots.is_begun.Given as goal

-- none of the slots so far began with the key
abbrev pub invariant-loop-slot : goal.invariant-loop-slot
invariant-loop-slot l = is_begun l.files.entries l.key (drop l.slot-index l.slots) ≡ is_begun l.files.entries l.key l.slots
