use Rattle.std.proofs.Common.{◌≡◌, ◌-◌, ◌≤◌, length, take, drop, vec_len, Some, IfSome}
use Rattle.source_bytes.specs.declared.reading.TheConstants.{PIECE_BYTES}
use Rattle.source_bytes.proofs.reading.read_up_to.Given as goal

-- all bytes so far were read, and the rest of them is left
abbrev pub invariant-loop-piece : goal.invariant-loop-piece
invariant-loop-piece g l = record {
  within : vec_len l.all ≤ l.initial.limit;
  piece : length l.piece ≡ PIECE_BYTES;
  faults : g.R.Source.faults l.initial.source ≤ g.R.Source.faults l.source;
  told : IfSome (g.R.Source.left l.initial.source)
      (λ left. (g.R.Source.left l.source ≡ Some (drop (vec_len l.all) left)) × (l.all.items ≡ take (vec_len l.all) left));
}

abbrev pub decreases-loop-piece : goal.decreases-loop-piece
decreases-loop-piece g l = l.initial.limit - vec_len l.all
