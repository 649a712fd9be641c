use Rattle.std.proofs.Common.{◌≡◌, ◌≤◌, length}
use Rattle.spool_queue.proofs.PutReadings.{HasPut}
use Rattle.spool_queue.proofs.putting.put_lines.Given as goal

-- the lines of what was read are put, and no fault is forgotten
abbrev pub invariant-loop : goal.invariant-loop
invariant-loop g l = record {
  able : (goal.iterator-loop g).can_next l.iterator' × (goal.iterator-loop g).is_finite l.iterator';
  piece : length l.piece ≡ 65_536;
  put : HasPut g.D.Disk l.initial.disk l.disk l.initial.spool l.spool l.line.items (g.R.Source.left l.initial.source) (g.R.Source.left l.source);
  faults : g.R.Source.faults l.initial.source ≤ g.R.Source.faults l.source;
}
