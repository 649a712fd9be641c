use Rattle.std.proofs.Common.{◌≡◌, length, rules, sym, ap, ◌∙◌}
use Rattle.prospector_core.specs.declared.marks.Watched.{Watched}
use Rattle.prospector_core.proofs.Indexing.{key_of_place}
use Rattle.prospector_core.proofs.key_index.place_of_key.Goals as goal

pub returns-then-eq-clause-found : goal.returns-then-eq-clause-found
returns-then-eq-clause-found c =
    let one = c.index-watched-place.result in
    key_of_place c.args.watched.now c.loop-place.place one c.loop-place-test.true
    ∙ ap (λ (w : Watched). w.file.key) (sym c.index-watched-place.is) ∙ search (rules, c.bytes.ensures.same, c.if-eq.ensures)
