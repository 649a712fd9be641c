use Rattle.std.proofs.Common.{◌≡◌, ◌++◌, All}
use Rattle.std.specs.List.{filter_map}
use Rattle.wire_base.specs.Ranges.{IsOp}
use Rattle.ack_tracker.specs.Keys.{change_kept}
use Rattle.ack_tracker.proofs.keys.Keys.changes.Given as goal

-- the changes so far, and those of the keys that are left
abbrev pub invariant-loop-key : goal.invariant-loop-key
invariant-loop-key l = record {
  so_far : l.ops.items ++ filter_map (change_kept l.files.entries) l.key-iterator ≡ filter_map (change_kept l.files.entries) l.self.by_key.entries;
  in_range : All IsOp l.ops.items;
}
