use Rattle.std.proofs.Common.{◌∙◌, sym, subst}
use Rattle.wire_base.specs.declared.note.Note.{Note}
use Rattle.ship_core.specs.Orderly.{MayFollow}
use Rattle.ship_core.specs.RowOver.{notes_of, spans_in}
use Rattle.memory_tests.proofs.Apart.{all_apart}
use Rattle.memory_tests.proofs.tests.rows.orderly.may_follow.Goals as goal

pub returns-then-is_begun : goal.returns-then-is_begun
returns-then-is_begun c = λ yes.
    let w = c.in-Settle in
    subst (λ (n : Note). MayFollow c.args.notes.now n) (sym w.is)
    (c.is_begun.ensures c.if-is_begun.true, all_apart w.span (spans_in w.epoch.0 (notes_of w.slot.0 c.args.notes.now)) (sym c.are_all_apart.ensures ∙ yes))
