use Rattle.std.proofs.Common.{◌≡◌, drop}
use Rattle.event_tree.specs.Keys.{find}
use Rattle.processors_core.proofs.fields.find.Given as goal

-- what the key has is among the pairs that are left
abbrev pub invariant-loop-i : goal.invariant-loop-i
invariant-loop-i l = find l.key (drop l.i l.fields) ≡ find l.key l.fields
