use Rattle.std.proofs.Common.{take}
use Rattle.restart_join.specs.PathOrder.{members_at}
use Rattle.restart_join.specs.Steps.{HasJoined}
use Rattle.restart_join.proofs.join.join_members.Given as goal

abbrev pub invariant-loop-place : goal.invariant-loop-place
invariant-loop-place l = HasJoined l.rows l.initial.joined.next (members_at l.seen (take l.place-index l.order)) l.joined
