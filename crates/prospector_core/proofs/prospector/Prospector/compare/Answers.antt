use Rattle.std.proofs.Common.{◌≡◌, ℕ, List, All, true, false, ap, subst, sym, ◌+◌, ◌∙◌}
use Rattle.prospector_core.proofs.Comparing.{all_written, index_stays, known_view, not_grown, record_of, remembered, settled_all, still_known}
use Rattle.prospector_core.proofs.Gone.{added_stay, cleared_stay, known_of_all, on_refusal, settled_stay, swept_known, swept_stay, view_of_all}
use Rattle.prospector_core.proofs.Looping.{index_kept}
use Rattle.prospector_core.proofs.Settling.{files-cleared}
use Rattle.prospector_core.specs.declared.known.Known.{Known}
use Rattle.prospector_core.specs.declared.marks.Watched.{Watched}
use Rattle.prospector_core.specs.KnownFiles.{AreKnown, KnownFiles}
use Rattle.prospector_core.specs.Marks.{Stays, cleared, files_of, settled_one}
use Rattle.prospector_core.specs.Watching.{all_by, known_by}
use Rattle.prospector_core.proofs.prospector.Prospector.compare.Goals as goal

-- ---- after those that are gone were taken out

pub invariant_of-self : goal.invariant_of-self
invariant_of-self c =
    let is = c.sweep-self-inside.ensures.swept in
    record {
      apart = swept_known c.self.inside.watched.items _ c.self.inside.next c.self.inside.others is c.self.invariant.apart;
      index = λ indexed. absurd (let q : true ≡ false = sym indexed ∙ c.in_err-need_index.ensures.refused_without_one in cc);
      none_gone = λ same. swept_stay c.self.inside.watched.items _ is;
    }

pub returns-in_err-need_index-clause-kept_on_refusal : goal.returns-in_err-need_index-clause-kept_on_refusal
returns-in_err-need_index-clause-kept_on_refusal c =
    let is = c.sweep-self-inside.ensures.swept in
    on_refusal c.from_residual.result _
    (view_of_all c.sweep-self-inside.new.watched.items c.self.inside.next c.self.inside.others (swept_stay c.self.inside.watched.items _ is)
    ∙ ap (λ (l : List Watched). all_by l c.self.inside.next c.self.inside.others) is ∙ c.self.view_is)

pub returns-in_err-need_index-clause-known : goal.returns-in_err-need_index-clause-known
returns-in_err-need_index-clause-known c =
    let is = c.sweep-self-inside.ensures.swept in
    known_of_all c.sweep-self-inside.new.watched.items c.self.inside.next c.self.inside.others (swept_stay c.self.inside.watched.items _ is)
    (swept_known c.self.inside.watched.items _ c.self.inside.next c.self.inside.others is c.self.invariant.apart)

pub tell_scan-requires-clause-known : goal.tell_scan-requires-clause-known
tell_scan-requires-clause-known c =
    let is = c.sweep-self-inside.ensures.swept in
    subst (λ (k : KnownFiles). AreKnown k)
    (sym (known_view c.sweep-self-inside.new.watched.items c.self.inside.next _ c.self.inside.others (ap (λ (n : ℕ). n + c.self.inside.others) (c.len.ensures ∙ c.sweep-self-inside.new.watched.ok.0))))
    (swept_known c.self.inside.watched.items _ c.self.inside.next c.self.inside.others is c.self.invariant.apart)

-- ---- where the scan is refused

pub invariant_of-self-in-Err : goal.invariant_of-self-in-Err
invariant_of-self-in-Err c =
    let swept = c.sweep-self-inside.new.watched.items in
    let is = c.sweep-self-inside.ensures.swept in
    let made = all_written cleared c.tell_scan.new.watched.items c.clear_marks.new.watched c.deref_mut.result.now c.tell_scan.new.watched.len c.clear_marks.ensures c.deref_mut.ensures.value c.tell_scan.new.watched.ok.0 in
    let files = ap files_of made ∙ files-cleared c.tell_scan.new.watched.items ∙ c.in-Err.ensures.files_kept in
    record {
      apart = subst (λ (l : List Known). AreKnown (record_of l c.self.inside.next c.self.inside.others)) (sym files) (swept_known c.self.inside.watched.items swept c.self.inside.next c.self.inside.others is c.self.invariant.apart);
      index = λ indexed. index_kept swept _ c.need_index.new.order.items files (rw c.deref.ensures.value at c.in_ok-need_index.ensures.indexed);
      none_gone = λ same. subst (λ (l : List Watched). All Stays l) (sym made) (cleared_stay c.tell_scan.new.watched.items);
    }

pub returns-in-Err-clause-kept_on_refusal : goal.returns-in-Err-clause-kept_on_refusal
returns-in-Err-clause-kept_on_refusal c =
    let is = c.sweep-self-inside.ensures.swept in
    let made = all_written cleared c.tell_scan.new.watched.items c.clear_marks.new.watched c.deref_mut.result.now c.tell_scan.new.watched.len c.clear_marks.ensures c.deref_mut.ensures.value c.tell_scan.new.watched.ok.0 in
    let files = ap files_of made ∙ files-cleared c.tell_scan.new.watched.items ∙ c.in-Err.ensures.files_kept in
    view_of_all _ c.self.inside.next c.self.inside.others (subst (λ (l : List Watched). All Stays l) (sym made) (cleared_stay c.tell_scan.new.watched.items))
    ∙ ap (λ (l : List Known). record_of l c.self.inside.next c.self.inside.others) files
    ∙ ap (λ (l : List Watched). all_by l c.self.inside.next c.self.inside.others) is ∙ c.self.view_is

pub returns-in-Err-clause-known : goal.returns-in-Err-clause-known
returns-in-Err-clause-known c =
    let swept = c.sweep-self-inside.new.watched.items in
    let is = c.sweep-self-inside.ensures.swept in
    let made = all_written cleared c.tell_scan.new.watched.items c.clear_marks.new.watched c.deref_mut.result.now c.tell_scan.new.watched.len c.clear_marks.ensures c.deref_mut.ensures.value c.tell_scan.new.watched.ok.0 in
    let files = ap files_of made ∙ files-cleared c.tell_scan.new.watched.items ∙ c.in-Err.ensures.files_kept in
    known_of_all _ c.self.inside.next c.self.inside.others (subst (λ (l : List Watched). All Stays l) (sym made) (cleared_stay c.tell_scan.new.watched.items))
    (subst (λ (l : List Known). AreKnown (record_of l c.self.inside.next c.self.inside.others)) (sym files) (swept_known c.self.inside.watched.items swept c.self.inside.next c.self.inside.others is c.self.invariant.apart))

-- ---- where it is told

pub grow_index-self-inside-requires : goal.grow_index-self-inside-requires
grow_index-self-inside-requires c = λ same.
    let swept = c.sweep-self-inside.new.watched in
    let marked = settled_all c.args.whole c.tell_scan.new.watched.items c.settle.new.watched c.deref_mut-2.result.now c.tell_scan.new.watched.len
    c.settle.ensures c.deref_mut-2.ensures.value c.tell_scan.new.watched.ok.0 in
    let count = ap (λ (n : ℕ). n + c.self.inside.others) (c.len.ensures ∙ swept.ok.0) in
    rw c.deref-3.ensures.value
    (index_stays _ swept.items c.tell_scan.new.watched.items _ c.self.inside.next c.self.inside.others _ c.in-Ok.told count c.in-Ok.ensures.told marked c.need_index.new.order.items (not_grown _ _ same)
    (rw c.deref.ensures.value at c.in_ok-need_index.ensures.indexed))

pub invariant_of-self-2 : goal.invariant_of-self-2
invariant_of-self-2 c =
    let swept = c.sweep-self-inside.new.watched in
    let is = c.sweep-self-inside.ensures.swept in
    let marked = settled_all c.args.whole c.tell_scan.new.watched.items c.settle.new.watched c.deref_mut-2.result.now c.tell_scan.new.watched.len
    c.settle.ensures c.deref_mut-2.ensures.value c.tell_scan.new.watched.ok.0 in
    let count = ap (λ (n : ℕ). n + c.self.inside.others) (c.len.ensures ∙ swept.ok.0) in
    record {
      apart = still_known _ swept.items c.tell_scan.new.watched.items _ c.self.inside.next c.self.inside.others _ c.in-Ok.told count c.in-Ok.ensures.told marked
          (swept_known c.self.inside.watched.items swept.items c.self.inside.next c.self.inside.others is c.self.invariant.apart);
      index = λ indexed. rw c.deref-3.ensures.value at (c.grow_index-self-inside.ensures indexed);
      none_gone = λ same. subst (λ (l : List Watched). All Stays l) (sym marked) (settled_stay c.args.whole c.tell_scan.new.watched.items (added_stay _ _ _ c.in-Ok.told c.in-Ok.ensures.told));
    }

pub returns-clause-remembered : goal.returns-clause-remembered
returns-clause-remembered c =
    let swept = c.sweep-self-inside.new.watched in
    let is = c.sweep-self-inside.ensures.swept in
    let marked = settled_all c.args.whole c.tell_scan.new.watched.items c.settle.new.watched c.deref_mut-2.result.now c.tell_scan.new.watched.len
    c.settle.ensures c.deref_mut-2.ensures.value c.tell_scan.new.watched.ok.0 in
    let count = ap (λ (n : ℕ). n + c.self.inside.others) (c.len.ensures ∙ swept.ok.0) in
    view_of_all _ c.in-Ok.told.next c.self.inside.others
    (subst (λ (l : List Watched). All Stays l) (sym marked) (settled_stay c.args.whole c.tell_scan.new.watched.items (added_stay _ _ _ c.in-Ok.told c.in-Ok.ensures.told)))
    ∙ remembered _ swept.items c.tell_scan.new.watched.items _ c.self.inside.next c.self.inside.others _ c.in-Ok.told count c.in-Ok.ensures.told marked c.args.self.now
    (ap (λ (l : List Watched). all_by l c.self.inside.next c.self.inside.others) is ∙ c.self.view_is)

pub returns-clause-known : goal.returns-clause-known
returns-clause-known c =
    let swept = c.sweep-self-inside.new.watched in
    let is = c.sweep-self-inside.ensures.swept in
    let marked = settled_all c.args.whole c.tell_scan.new.watched.items c.settle.new.watched c.deref_mut-2.result.now c.tell_scan.new.watched.len
    c.settle.ensures c.deref_mut-2.ensures.value c.tell_scan.new.watched.ok.0 in
    let count = ap (λ (n : ℕ). n + c.self.inside.others) (c.len.ensures ∙ swept.ok.0) in
    known_of_all _ c.in-Ok.told.next c.self.inside.others
    (subst (λ (l : List Watched). All Stays l) (sym marked) (settled_stay c.args.whole c.tell_scan.new.watched.items (added_stay _ _ _ c.in-Ok.told c.in-Ok.ensures.told)))
    (still_known _ swept.items c.tell_scan.new.watched.items _ c.self.inside.next c.self.inside.others _ c.in-Ok.told count c.in-Ok.ensures.told marked
    (swept_known c.self.inside.watched.items swept.items c.self.inside.next c.self.inside.others is c.self.invariant.apart))
