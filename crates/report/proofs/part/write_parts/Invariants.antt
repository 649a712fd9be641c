use Rattle.std.proofs.Common.{◌≤◌, drop}
use Rattle.std.specs.List.{flat_map}
use Rattle.report.specs.Part.{part_bytes}
use Rattle.report.proofs.Writings.{Continues}
use Rattle.report.proofs.part.write_parts.Given as goal

abbrev pub invariant-loop-part : goal.invariant-loop-part
invariant-loop-part g l = record {
  faults : g.S.Sink.faults l.initial.out ≤ g.S.Sink.faults l.out;
  told : Continues (g.S.Sink.written l.initial.out) (flat_map part_bytes l.parts) (g.S.Sink.written l.out) (flat_map part_bytes (drop l.part-index l.parts));
}
