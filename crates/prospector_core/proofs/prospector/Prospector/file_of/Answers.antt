use Rattle.std.proofs.Common.{ℕ, ◌≡◌, All, Contains, ap, subst, sym, ◌∙◌, ◌≢◌}
use Rattle.std.proofs.lemmas.List.{get_or-map}
use Rattle.prospector_core.specs.declared.known.Known.{Known}
use Rattle.prospector_core.specs.declared.marks.Watched.{Watched}
use Rattle.prospector_core.specs.KnownFiles.{KnownFiles}
use Rattle.prospector_core.specs.Marks.{files_of, here}
use Rattle.prospector_core.proofs.Gone.{among_here, if_none, slot_gone, slot_none}
use Rattle.prospector_core.proofs.prospector.Prospector.file_of.Goals as goal

pub returns-in_err-place-clause-none : goal.returns-in_err-place-clause-none
returns-in_err-place-clause-none c =
    if_none c.from_residual.result _
    (subst (λ (k : KnownFiles). All (λ (file : Known). file.slot ≢ c.args.slot) k.files) c.self.view_is
    (slot_none c.self.inside.watched.items c.args.slot (rw c.deref.ensures.value at c.in_err-place.ensures.absent)))

pub returns-then-one-clause-none : goal.returns-then-one-clause-none
returns-then-one-clause-none c =
    let items = c.self.inside.watched.items in
    let place = c.in_ok-place.place in
    let one = c.index-one.result.now in
    let within = rw c.deref.ensures.value at c.in_ok-place.ensures.within in
    let found = rw c.deref.ensures.value at c.in_ok-place.ensures.found in
    subst (λ (k : KnownFiles). All (λ (file : Known). file.slot ≢ c.args.slot) k.files) c.self.view_is
    (slot_gone items c.args.slot place one c.self.invariant.apart.apart within c.index-one.ensures
    (ap (λ (w : Watched). w.file.slot.0) c.index-one.ensures ∙ sym (get_or-map (λ (w : Watched). w.file.slot.0) items place one 0 within) ∙ found) c.if-one.true)

pub returns-clause-found : goal.returns-clause-found
returns-clause-found c =
    let items = c.self.inside.watched.items in
    let place = c.in_ok-place.place in
    let one = c.index-one.result.now in
    let within = rw c.deref.ensures.value at c.in_ok-place.ensures.within in
    subst (λ (k : KnownFiles). Contains k.files one.file) c.self.view_is
    (subst (λ (w : Watched). Contains (files_of (here items)) w.file) (sym c.index-one.ensures)
    (among_here items place one within (ap (λ (w : Watched). w.gone) (sym c.index-one.ensures) ∙ c.if-one.false)))
