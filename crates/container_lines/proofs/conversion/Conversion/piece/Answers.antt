use Rattle.std.proofs.Common.{◌++◌, refl, arith}
use Rattle.std.proofs.lemmas.Result.{err_from_is_err_and}
use Rattle.container_lines.specs.Joined.{container_rule, log_lines}
use Rattle.container_lines.proofs.Conversions.{front_of_log, front_of_fed, is_fed, on_ok, on_err}
use Rattle.container_lines.proofs.conversion.Conversion.piece.Goals as goal

pub returns-then-self-piece-clause-front : goal.returns-then-self-piece-clause-front
returns-then-self-piece-clause-front g c =
    λ aim fed converts. front_of_fed c.lines_stay.ensures aim fed c.args.piece.now _ (front_of_log c.lines_stay.ensures aim fed (log_lines fed) _ _ converts)

pub feed-requires : goal.feed-requires
feed-requires g c = omega (arith, c.args.self.now.place, c.args.self.now.in_range)

pub returns-in_err-feed-clause-front : goal.returns-in_err-feed-clause-front
returns-in_err-feed-clause-front g c =
    let p = err_from_is_err_and c.from_residual.result c.from_residual.ensures.1 in
    rw (p.1) (λ aim fed converts. front_of_fed c.lines_stay.ensures aim fed c.args.piece.now _ (front_of_log c.lines_stay.ensures aim fed (log_lines fed) _ _ converts))

pub invariant_of-self-2 : goal.invariant_of-self-2
invariant_of-self-2 g c = record {
  place = omega (arith, c.in_ok-feed.ensures.place, c.args.self.now.place);
  in_range = omega (arith, c.args.self.now.in_range);
}

pub returns-clause-converted : goal.returns-clause-converted
returns-clause-converted g c =
    on_ok c.take_lines.result
    (λ taken aim fed converts. taken aim (fed ++ c.args.piece.now) (log_lines fed)
    (is_fed aim fed c.args.piece.now _ _ _ (c.in_ok-feed.ensures.fed container_rule 0 fed (log_lines fed) converts.cut) refl refl refl converts))
    c.take_lines.ensures.converted

pub returns-clause-front : goal.returns-clause-front
returns-clause-front g c =
    on_err c.take_lines.result
    (λ taken aim fed converts. taken aim (fed ++ c.args.piece.now) (log_lines fed)
    (is_fed aim fed c.args.piece.now _ _ _ (c.in_ok-feed.ensures.fed container_rule 0 fed (log_lines fed) converts.cut) refl refl refl converts))
    c.take_lines.ensures.front
