use Rattle.std.proofs.Common.{◌≡◌, None, drop}
use Rattle.ack_tracker.specs.Keys.{latest_of}
use Rattle.ack_tracker.proofs.slots.latest_of.Given as goal

-- the slots so far are in the latest, and the others follow
abbrev pub invariant-loop-slot : goal.invariant-loop-slot
invariant-loop-slot l = latest_of l.files.entries l.key l.latest (drop l.slot-index l.slots) ≡ latest_of l.files.entries l.key None l.slots
