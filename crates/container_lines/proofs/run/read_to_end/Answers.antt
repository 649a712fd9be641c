use Rattle.std.proofs.Common.{rules}
use Rattle.std.proofs.lemmas.Result.{err_from_is_err_and}
use Rattle.container_lines.proofs.Readings.{at, reading_more, read_in_part, piece_in_part}
use Rattle.container_lines.proofs.run.read_to_end.Goals as goal

pub loop-preserved : goal.loop-preserved
loop-preserved g c = record {
  able = search rules;
  source_faults = search rules;
  sink_faults = search rules;
  piece = search rules;
  reading = reading_more _ _ _ c.read.new.into c.in-Ok.count _ _ _ c.loop.invariant.reading (rw c.in-Ok.is at c.read.ensures.told) c.in_ok-piece-in-Ok.ensures.converted;
}

pub returns-in_err-piece-in-Ok-clause-front : goal.returns-in_err-piece-in-Ok-clause-front
returns-in_err-piece-in-Ok-clause-front g c =
    let p = err_from_is_err_and c.from_residual.result c.from_residual.ensures.1 in
    rw (p.1) (piece_in_part c.lines_stay.ensures _ _ _ (g.S.Sink.written c.piece.new.out) c.read.new.into c.in-Ok.count _ (at (g.S.Sink.written c.loop.out) c.loop.log) c.loop.invariant.reading (rw c.in-Ok.is at c.read.ensures.told) c.in_err-piece-in-Ok.ensures.front)

pub returns-in-Err-clause-front : goal.returns-in-Err-clause-front
returns-in-Err-clause-front g c = read_in_part c.lines_stay.ensures _ _ _ _ c.loop.invariant.reading
