use Rattle.std.proofs.Common.{◌≡◌, rules, Bool, Option, Some, None, ap, refl, subst, sym, ◌∙◌, if◌then◌else◌}
use Rattle.std.specs.Option.{option_map}
use Rattle.wire_base.specs.declared.numbers.Slot.{Slot}
use Rattle.prospector_core.specs.declared.known.Known.{Known}
use Rattle.prospector_core.specs.declared.marks.Watched.{Watched}
use Rattle.prospector_core.specs.KnownFiles.{KnownFiles, known_with}
use Rattle.prospector_core.proofs.Gone.{key_absent, key_found}
use Rattle.prospector_core.proofs.Indexing.{key_of_place}
use Rattle.prospector_core.proofs.prospector.Prospector.slot_of.Goals as goal

slot_in : Option Known → Option Slot
slot_in o = option_map (λ (file : Known). file.slot) o

pub returns-in_err-place : goal.returns-in_err-place
unfolding slot_in
returns-in_err-place c =
    search (rules, ap slot_in (ap (λ (k : KnownFiles). known_with c.args.key.now k.files) (sym c.self.view_is) ∙ key_absent c.self.inside.watched.items c.args.key.now (rw c.deref.ensures.value at c.in_err-place.ensures.absent)), c.from_residual.ensures)

pub returns-then-one : goal.returns-then-one
unfolding slot_in
returns-then-one c =
    let items = c.self.inside.watched.items in
    let place = c.in_ok-place.place in
    let one = c.index-one.result.now in
    let within = rw c.deref.ensures.value at c.in_ok-place.ensures.within in
    let found = rw c.deref.ensures.value at c.in_ok-place.ensures.found in
    sym (ap slot_in (ap (λ (k : KnownFiles). known_with c.args.key.now k.files) (sym c.self.view_is)
    ∙ key_found items c.args.key.now place one c.self.invariant.apart.apart within (sym (key_of_place items place one within) ∙ found)
    ∙ ap (λ (w : Watched). if w.gone then None else Some w.file) (sym c.index-one.ensures)
    ∙ ap (λ (b : Bool). if b then None else Some one.file) c.if-one.true))

pub returns : goal.returns
unfolding slot_in
returns c =
    let items = c.self.inside.watched.items in
    let place = c.in_ok-place.place in
    let one = c.index-one.result.now in
    let within = rw c.deref.ensures.value at c.in_ok-place.ensures.within in
    let found = rw c.deref.ensures.value at c.in_ok-place.ensures.found in
    sym (ap slot_in (ap (λ (k : KnownFiles). known_with c.args.key.now k.files) (sym c.self.view_is)
    ∙ key_found items c.args.key.now place one c.self.invariant.apart.apart within (sym (key_of_place items place one within) ∙ found)
    ∙ ap (λ (w : Watched). if w.gone then None else Some w.file) (sym c.index-one.ensures)
    ∙ ap (λ (b : Bool). if b then None else Some one.file) c.if-one.false))
