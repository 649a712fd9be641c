use Rattle.std.proofs.Common.{[], ◌∷◌, sym, ◌∙◌, refl, ap, inl, inr, ℕ, Some}
use Rattle.container_lines.specs.declared.status.BadLines.{BadLines}
use Rattle.container_lines.specs.Bad.{noted}
use Rattle.container_lines.specs.declared.conversion.Conversion.{Conversion}
use Rattle.std.proofs.lemmas.Result.{err_from_is_err_and}
use Rattle.container_lines.specs.declared.told.Told.TheVariants.{Waits, Other, Malformed}
use Rattle.container_lines.proofs.Conversions.{front_of_more, converts_more, converts_whole, front_whole, spells_nothing, on_ok, on_err}
use Rattle.container_lines.proofs.Outputs.{stands_front}
use Rattle.container_lines.proofs.conversion.Conversion.take_line.Goals as goal

pub returns-in_err-joined-clause-front : goal.returns-in_err-joined-clause-front
returns-in_err-joined-clause-front g c =
    let p = err_from_is_err_and c.from_residual.result c.from_residual.ensures.1 in
    rw (p.1) (λ aim fed lines handed. front_of_more aim lines (c.args.line.now ∷ []) _ (stands_front _ _ _ _ handed.output))

pub returns-in-Whole-clause-converted : goal.returns-in-Whole-clause-converted
returns-in-Whole-clause-converted g c =
    on_ok c.put.result
    (λ put aim fed lines handed.
    converts_whole aim fed lines _ _ _ c.args.self.now c.put.new.self _ _ _ (sym c.in-Whole.is ∙ c.in_ok-joined.ensures.told_by_the_lines _ _ lines handed.joined)
    (c.in_ok-joined.ensures.taken _ _ lines handed.joined)
    (ap (λ (l : Conversion). l.joiner) c.put.ensures.others)
    (ap (λ (l : Conversion). l.cutter) c.put.ensures.others)
    (ap (λ (l : Conversion). l.bad) c.put.ensures.others)
    c.bytes.ensures (put _ _ handed.output) handed)
    c.put.ensures.put

pub returns-in-Whole-clause-front : goal.returns-in-Whole-clause-front
returns-in-Whole-clause-front g c =
    on_err c.put.result
    (λ put aim fed lines handed.
    front_whole aim lines _ _ _ _ (sym c.in-Whole.is ∙ c.in_ok-joined.ensures.told_by_the_lines _ _ lines handed.joined) c.bytes.ensures (put _ _ handed.output))
    c.put.ensures.front

pub returns-in-Waits-clause-converted : goal.returns-in-Waits-clause-converted
returns-in-Waits-clause-converted g c =
    λ aim fed lines handed.
    let told = c.in_ok-joined.ensures.told_by_the_lines _ _ lines handed.joined in
    let has = c.in_ok-joined.ensures.taken _ _ lines handed.joined in
    elim c.in-Waits.is [
      | inl waits ↦ converts_more aim fed lines _ _ _ c.args.self.now _ Waits (sym waits ∙ told) has refl refl (spells_nothing _ _ _ _ handed.output) handed
      | inr other ↦ converts_more aim fed lines _ _ _ c.args.self.now _ Other (sym other ∙ told) has refl refl (spells_nothing _ _ _ _ handed.output) handed
    ]

pub returns-in_err-noted-in-Malformed-clause-front : goal.returns-in_err-noted-in-Malformed-clause-front
returns-in_err-noted-in-Malformed-clause-front g c =
    let p = err_from_is_err_and c.from_residual-in_err-noted-in-Malformed.result c.from_residual-in_err-noted-in-Malformed.ensures.1 in
    rw (p.1) (λ aim fed lines handed. front_of_more aim lines (c.args.line.now ∷ []) _ (stands_front _ _ _ _ handed.output))

pub returns-in_ok-noted-in-Malformed-clause-converted : goal.returns-in_ok-noted-in-Malformed-clause-converted
returns-in_ok-noted-in-Malformed-clause-converted g c =
    λ aim fed lines handed.
    converts_more aim fed lines _ _ _ c.args.self.now _ Malformed (sym c.in-Malformed.is ∙ c.in_ok-joined.ensures.told_by_the_lines _ _ lines handed.joined)
    (c.in_ok-joined.ensures.taken _ _ lines handed.joined) refl
    (ap (λ (b : BadLines). Some b) (c.in_ok-noted-in-Malformed.ensures ∙ ap (λ (n : ℕ). noted c.args.self.now.bad n) c.start.ensures.start))
    (spells_nothing _ _ _ _ handed.output) handed
