use Rattle.std.proofs.Common.{true, sym, ap, ◌∙◌, set}
use Rattle.std.proofs.lemmas.List.{get_or-map}
use Rattle.prospector_core.specs.declared.marks.Watched.{Watched}
use Rattle.prospector_core.proofs.Gone.{none_forgotten, one_forgotten}
use Rattle.prospector_core.proofs.prospector.forget.Goals as goal

pub returns-in-Some : goal.returns-in-Some
returns-in-Some c =
    let watched = c.args.watched.now in
    let place = c.in-Some.place in
    let one = c.index-watched-place.result in
    ap (λ (w : Watched). set watched place (record w { gone = true })) (sym c.index-watched-place.is)
    ∙ one_forgotten c.args.slot.0 place watched one c.requires c.in-Some.ensures.within c.index-watched-place.is
    (ap (λ (w : Watched). w.file.slot.0) c.index-watched-place.is ∙ sym (get_or-map (λ (w : Watched). w.file.slot.0) watched place one 0 c.in-Some.ensures.within) ∙ c.in-Some.ensures.found)

pub returns-in-None : goal.returns-in-None
returns-in-None c = none_forgotten c.args.slot.0 c.args.watched.now c.in-None.ensures.absent
