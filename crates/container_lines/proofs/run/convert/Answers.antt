use Rattle.std.proofs.Common.{ap, Option, List, ℕ}
use Rattle.std.proofs.lemmas.Result.{err_from_is_err_and}
use Rattle.container_lines.specs.Conversion.{Aim}
use Rattle.container_lines.specs.declared.conversion.Conversion.{Conversion}
use Rattle.container_lines.specs.declared.words.Asked.{Asked}
use Rattle.container_lines.proofs.Readings.{bad_at_the_end, all_written, front_written}
use Rattle.container_lines.proofs.run.convert.Goals as goal

abbrev aim : Asked → Option (List ℕ) → Aim
aim asked before = record { asked = asked; before = before }

pub returns-in_err-read_to_end-clause-front : goal.returns-in_err-read_to_end-clause-front
returns-in_err-read_to_end-clause-front g c =
    let p = err_from_is_err_and c.from_residual-in_err-read_to_end.result c.from_residual-in_err-read_to_end.ensures.1 in
    let before = g.S.Sink.written c.args.out.now in
    rw (p.1) (c.in_err-read_to_end.ensures.front (aim c.args.asked before) (c.in_ok-log.ensures.made before))

pub returns-in_err-flush-clause-front : goal.returns-in_err-flush-clause-front
returns-in_err-flush-clause-front g c =
    let p = err_from_is_err_and c.from_residual-in_err-flush.result c.from_residual-in_err-flush.ensures.1 in
    let before = g.S.Sink.written c.args.out.now in
    rw (p.1) (front_written _ (aim c.args.asked before) _ _ _ (c.in_ok-read_to_end.ensures.converted (aim c.args.asked before) (c.in_ok-log.ensures.made before)) c.in_err-flush.ensures.front)

pub returns-clause-read : goal.returns-clause-read
returns-clause-read g c =
    let before = g.S.Sink.written c.args.out.now in
    bad_at_the_end _ (aim c.args.asked before) _ c.read_to_end.new.log c.flush.new.self
    (c.in_ok-read_to_end.ensures.converted (aim c.args.asked before) (c.in_ok-log.ensures.made before)) (ap (λ (l : Conversion). l.bad) c.flush.ensures.others)

pub returns-clause-written : goal.returns-clause-written
returns-clause-written g c =
    let before = g.S.Sink.written c.args.out.now in
    all_written _ (aim c.args.asked before) _ _ _ _ (c.in_ok-read_to_end.ensures.converted (aim c.args.asked before) (c.in_ok-log.ensures.made before))
    c.in_ok-flush.ensures.written c.in_ok-flush.ensures.none_waits
