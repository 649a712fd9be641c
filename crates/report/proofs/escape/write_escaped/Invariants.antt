use Rattle.std.proofs.Common.{◌≤◌, length}
use Rattle.std.specs.List.{flat_map}
use Rattle.event_json.specs.Json.{escape}
use Rattle.report.proofs.Writings.{Continues}
use Rattle.report.proofs.escape.write_escaped.Given as goal

abbrev pub invariant-loop-at : goal.invariant-loop-at
invariant-loop-at g l = record {
  faults : g.S.Sink.faults l.initial.out ≤ g.S.Sink.faults l.out;
  told : Continues (g.S.Sink.written l.initial.out) (flat_map escape l.bytes) (g.S.Sink.written l.out) (flat_map escape l.left);
}

abbrev pub decreases-loop-at : goal.decreases-loop-at
decreases-loop-at g l = length l.left
