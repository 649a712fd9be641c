use Rattle.std.proofs.Common.{◌≡◌, ◌≤◌, ◌+◌, All, take, map}
use Rattle.std.specs.List.{sum_by}
use Rattle.std.specs.Prelude.{string_bytes}
use Rattle.registry_frame.specs.Body.{operation_bytes}
use Rattle.registry_frame.specs.BodyOf.{IsStoredOp}
use Rattle.registry_frame.proofs.Sizes.{size_of}
use Rattle.registry_frame.proofs.body_text.front_body.Given as goal

abbrev pub invariant-loop-op : goal.invariant-loop-op
invariant-loop-op l = record {
  written : map string_bytes l.texts.items ≡ map operation_bytes (take l.op-index l.ops);
  stored : All IsStoredOp (take l.op-index l.ops);
  so_far : l.size ≡ 1 + sum_by size_of (take l.op-index l.ops);
  fits : l.size ≤ l.most;
}
