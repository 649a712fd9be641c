use Rattle.std.proofs.Common.{◌≡◌, true, false, refl, sym, ap, ◌∙◌}
use Rattle.event_tree.specs.Tree.{value_of}
use Rattle.std.proofs.lemmas.List.Folds.{list_any_at, list_any_more}
use Rattle.std.proofs.lemmas.Option.{slice_get_within, get_or_from_slice_get}
use Rattle.conditions.specs.Asked.{is_text_with}
use Rattle.conditions.proofs.within.some_has_text.Goals as goal

pub returns-then-is_text_with : goal.returns-then-is_text_with
returns-then-is_text_with c =
    let value = value_of c.at.result.now in
    let at = get_or_from_slice_get c.args.members.now c.loop-i.i value value c.at.ensures.at in
    sym (list_any_at (is_text_with c.args.text.now) c.args.members.now c.loop-i.i value (slice_get_within c.args.members.now c.loop-i.i value c.at.ensures.at)
    (ap (is_text_with c.args.text.now) at ∙ sym c.is_text_with.ensures ∙ c.if-is_text_with.true))

pub loop-i-preserved : goal.loop-i-preserved
loop-i-preserved c =
    let value = value_of c.at.result.now in
    let at = get_or_from_slice_get c.args.members.now c.loop-i.i value value c.at.ensures.at in
    let here = ap (is_text_with c.args.text.now) at ∙ sym c.is_text_with.ensures ∙ c.if-is_text_with.false in
    let more = list_any_more (is_text_with c.args.text.now) c.args.members.now c.loop-i.i value (slice_get_within c.args.members.now c.loop-i.i value c.at.ensures.at) in
    more ∙ rw (c.loop-i.invariant, here) refl
