use Rattle.std.proofs.Common.{rules, arith}
use Rattle.source_bytes.proofs.Pieces.{read_more, read_full, read_to_the_end}
use Rattle.source_bytes.proofs.reading.read_up_to.Goals.{else-loop-piece-test, then-loop-piece-test+in-Ok-eq0}
use Rattle.source_bytes.proofs.reading.read_up_to.Goals as goal

pub loop-piece-preserved : goal.loop-piece-preserved
loop-piece-preserved g c = record {
  within = search rules;
  piece = search rules;
  faults = search rules;
  told = read_more _ _ c.read.new.into _ _ _ c.in-Ok.count _ _ _ (search rules) c.loop-piece.invariant.told (rw c.in-Ok.is at c.read.ensures.told) c.in-Ok-extend_from_slice.ensures.items (search rules);
}

pub returns-clause-read : goal.returns-clause-read
returns-clause-read g c = elim c.loop-piece-test.branch [
  | else-loop-piece-test w ↦ read_full _ _ _ _ _ c.loop-piece.invariant.within (omega (arith, w.loop-piece-test.false, c.len.ensures)) c.loop-piece.invariant.told
  | then-loop-piece-test+in-Ok-eq0 w ↦ read_to_the_end _ _ w.read.new.into _ _ w.in-Ok-eq0.field-0 _ _ c.loop-piece.invariant.within (search rules) (search rules) c.loop-piece.invariant.told (rw w.in-Ok-eq0.is at w.read.ensures.told)
]
