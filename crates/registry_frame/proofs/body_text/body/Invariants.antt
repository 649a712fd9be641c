use Rattle.std.proofs.Common.{◌≡◌, All, take, map}
use Rattle.std.specs.Prelude.{string_bytes}
use Rattle.registry_frame.specs.Body.{operation_bytes}
use Rattle.registry_frame.specs.BodyOf.{IsStoredOp}
use Rattle.registry_frame.proofs.body_text.body.Given as goal

abbrev pub invariant-loop-op : goal.invariant-loop-op
invariant-loop-op l = record {
  written : map string_bytes l.texts.items ≡ map operation_bytes (take l.op-index l.ops);
  stored : All IsStoredOp (take l.op-index l.ops);
}
