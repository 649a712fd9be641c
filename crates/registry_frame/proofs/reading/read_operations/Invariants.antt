use Rattle.std.proofs.Common.{◌≡◌, List, ◌++◌, length}
use Rattle.std.specs.Prelude.{All}
use Rattle.wire_base.specs.Ranges.{IsOp}
use Rattle.wire_base.specs.declared.row.Op.{Op}
use Rattle.registry_frame.specs.BodyOf.{IsStoredOp}
use Rattle.registry_frame.specs.Tokens.{body_tokens, list_tokens}
use Rattle.registry_frame.proofs.reading.read_operations.Given as goal

-- of a body the operations so far are the first ones, and the tokens to come are those of the others
abbrev pub invariant-operations : goal.invariant-operations
invariant-operations l = record {
  reads : (all : List Op) → All IsStoredOp all → l.fn.reader ≡ body_tokens all → (left : List Op) × (All IsStoredOp left) × (l.ops.items ++ left ≡ all) × (l.reader ≡ list_tokens left);
  in_range : All IsOp l.ops.items;
}

abbrev pub decreases-operations : goal.decreases-operations
decreases-operations l = length l.reader
