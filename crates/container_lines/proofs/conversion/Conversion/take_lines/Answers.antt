use Rattle.std.proofs.Common.{[], ◌∷◌, ◌++◌, refl, rules}
use Rattle.std.proofs.lemmas.Result.{err_from_is_err_and}
use Rattle.container_lines.specs.Joined.{container_rule}
use Rattle.container_lines.proofs.Conversions.{front_of_log, front_of_handed, is_handed, are_all_told}
use Rattle.container_lines.proofs.conversion.Conversion.take_lines.Goals as goal

pub returns-in_err-line-clause-front : goal.returns-in_err-line-clause-front
returns-in_err-line-clause-front g c =
    let p = err_from_is_err_and c.from_residual.result c.from_residual.ensures.1 in
    rw (p.1) (λ aim fed lines converts.
    let now = c.loop-line.invariant.converts.each aim fed lines converts in
    front_of_log c.lines_stay.ensures aim fed now.0 _ _ now.1)

pub returns-in_err-take_line-clause-front : goal.returns-in_err-take_line-clause-front
returns-in_err-take_line-clause-front g c =
    let p = err_from_is_err_and c.from_residual-in_err-take_line.result c.from_residual-in_err-take_line.ensures.1 in
    rw (p.1) (λ aim fed lines converts.
    let now = c.loop-line.invariant.converts.each aim fed lines converts in
    let handed = is_handed aim fed now.0 _ _ _ _ _ (c.in_ok-line.ensures.handed_out container_rule 0 fed now.0 now.1.cut) c.in-Some.is refl refl refl now.1 in
    front_of_handed c.lines_stay.ensures aim fed now.0 _ _ _ _ handed (c.in_err-take_line.ensures.front aim fed now.0 handed))

pub loop-line-preserved : goal.loop-line-preserved
loop-line-preserved g c = record {
  faults = search rules;
  converts = record {
    each = λ aim fed lines converts.
        let now = c.loop-line.invariant.converts.each aim fed lines converts in
        let handed = is_handed aim fed now.0 _ _ _ _ _ (c.in_ok-line.ensures.handed_out container_rule 0 fed now.0 now.1.cut) c.in-Some.is refl refl refl now.1 in
        (now.0 ++ c.in-Some.line ∷ [], c.in_ok-take_line.ensures.converted aim fed now.0 handed);
  };
}

pub returns-clause-converted : goal.returns-clause-converted
returns-clause-converted g c =
    λ aim fed lines converts.
    let now = c.loop-line.invariant.converts.each aim fed lines converts in
    are_all_told aim fed now.0 _ c.loop-line.self _
    (rw c.in_default.is at c.in_ok-line.ensures.handed_out container_rule 0 fed now.0 now.1.cut)
    (rw c.in_default.is at c.in_ok-line.ensures.none_where_all_were_handed_out container_rule 0 fed now.0 now.1.cut)
    refl refl refl now.1
