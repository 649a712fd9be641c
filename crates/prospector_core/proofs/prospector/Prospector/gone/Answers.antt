use Rattle.std.proofs.Common.{◌≡◌, List, false, true, ap, map, subst, sym, ◌∙◌}
use Rattle.prospector_core.proofs.Comparing.{all_written, record_of}
use Rattle.prospector_core.proofs.Gone.{files-forgotten, here-forgotten, known_here}
use Rattle.prospector_core.proofs.Looping.{index_kept}
use Rattle.prospector_core.specs.declared.known.Known.{Known}
use Rattle.prospector_core.specs.declared.marks.Watched.{Watched}
use Rattle.prospector_core.specs.KnownFiles.{AreKnown}
use Rattle.prospector_core.specs.Marks.{files_of, forgotten, here}
use Rattle.prospector_core.specs.Watching.{all_by}
use Rattle.prospector_core.proofs.prospector.Prospector.gone.Goals as goal

pub invariant_of-self : goal.invariant_of-self
invariant_of-self c =
    let items = c.self.inside.watched.items in
    let is = all_written (forgotten c.args.slot.0) items c.forget.new.watched c.deref_mut.result.now c.self.inside.watched.len c.forget.ensures c.deref_mut.ensures.value c.self.inside.watched.ok.0 in
    let files = ap files_of is ∙ files-forgotten c.args.slot.0 items in
    record {
      apart = subst (λ (l : List Known). AreKnown (record_of l c.self.inside.next c.self.inside.others)) (sym files) c.self.invariant.apart;
      index = λ indexed. index_kept items _ c.self.inside.order.items files (c.self.invariant.index indexed);
      none_gone = λ same. absurd (let q : true ≡ false = same in cc);
    }

pub returns-clause-forgotten : goal.returns-clause-forgotten
returns-clause-forgotten c =
    let items = c.self.inside.watched.items in
    let is = all_written (forgotten c.args.slot.0) items c.forget.new.watched c.deref_mut.result.now c.self.inside.watched.len c.forget.ensures c.deref_mut.ensures.value c.self.inside.watched.ok.0 in
    rw (← c.self.view_is)
    (ap (λ (l : List Known). record_of l c.self.inside.next c.self.inside.others)
    (ap (λ (l : List Watched). files_of (here l)) is ∙ here-forgotten c.args.slot.0 items))

pub returns-clause-known : goal.returns-clause-known
returns-clause-known c =
    let items = c.self.inside.watched.items in
    let is = all_written (forgotten c.args.slot.0) items c.forget.new.watched c.deref_mut.result.now c.self.inside.watched.len c.forget.ensures c.deref_mut.ensures.value c.self.inside.watched.ok.0 in
    let files = ap files_of is ∙ files-forgotten c.args.slot.0 items in
    known_here _ c.self.inside.next c.self.inside.others
    (subst (λ (l : List Known). AreKnown (record_of l c.self.inside.next c.self.inside.others)) (sym files) c.self.invariant.apart)
