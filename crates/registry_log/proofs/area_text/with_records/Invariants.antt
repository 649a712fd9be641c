use Rattle.std.proofs.Common.{◌≡◌, ◌≤◌, ◌++◌, All, length, take, drop}
use Rattle.registry_frame.specs.BodyOf.{IsStoredRow}
use Rattle.registry_log.specs.Area.{sets}
use Rattle.registry_log.specs.Records.{records_behind, records_bytes}
use Rattle.registry_log.proofs.area_text.with_records.Given as goal

abbrev pub invariant-loop-i : goal.invariant-loop-i
invariant-loop-i l = record {
  in_range : l.i ≤ length l.rows;
  written : l.area.text.items ++ records_behind l.area.body.items (sets (drop l.i l.rows)) ≡ l.fn.header.items ++ records_bytes (sets l.rows);
  stored : All IsStoredRow (take l.i l.rows);
}
