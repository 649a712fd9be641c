use Rattle.std.proofs.Common.{◌≡◌, ℕ, ◌<◌, true, List, length, get_or, Some, ap, subst, ◌∙◌, arith}
use Rattle.event_tree.specs.Tree.{value_of}
use Rattle.processors_core.specs.Attempt.{attempt_of}
use Rattle.processors_core.proofs.Moves.{next_pair, last_pair, none_told, not_both}
use Rattle.processors_core.proofs.rename.Renames.move_all.Goals as goal
use Rattle.processors_core.proofs.rename.Renames.move_all.Goals.{in-Some+else-self, in_default}

pub returns-then-self-clause-moved : goal.returns-then-self-clause-moved
returns-then-self-clause-moved c =
    let renames = c.args.self.now in
    let pair = c.pair-item.result in
    let after = value_of c.move_field.new.tree in
    last_pair renames.ignore_missing renames.fail_on_error renames.pairs.items c.loop-pair.pair-index pair
    (subst (λ l. c.loop-pair.pair-index < length l) c.deref-pair-items.ensures.value c.loop-pair-test.true)
    (subst (λ l. pair ≡ get_or l c.loop-pair.pair-index pair) c.deref-pair-items.ensures.value c.pair-item.is)
    (value_of c.loop-pair.tree) after c.in_ok-text.field-0 c.in_ok-text.ensures.moved _ c.loop-pair.invariant.so_far c.in-Some.text c.in-Some.is c.if-self.true
    ∙ ap (λ e. attempt_of e after) c.in-Some.is

pub loop-pair-preserved : goal.loop-pair-preserved
loop-pair-preserved c =
    let renames = c.args.self.now in
    let pair = c.pair-item.result in
    let goes : renames.fail_on_error ≡ true → (text : List ℕ) → c.in_ok-text.field-0 ≡ Some text → ⊥ = elim c.match-branch-2.branch [
      | in-Some+else-self w ↦ λ does text is. not_both renames.fail_on_error w.if-self.false does
      | in_default w ↦ λ does text is. none_told c.in_ok-text.field-0 text w.in_default.is is
    ] in
    record {
      so_far = next_pair renames.ignore_missing renames.fail_on_error renames.pairs.items c.loop-pair.pair-index pair
          (subst (λ l. c.loop-pair.pair-index < length l) c.deref-pair-items.ensures.value c.loop-pair-test.true)
          (subst (λ l. pair ≡ get_or l c.loop-pair.pair-index pair) c.deref-pair-items.ensures.value c.pair-item.is)
          (value_of c.loop-pair.tree) (value_of c.move_field.new.tree) c.in_ok-text.field-0 c.in_ok-text.ensures.moved _ c.loop-pair.invariant.so_far c.in_ok-text.ensures.left goes;
      at_first = λ e. absurd (omega (arith, e));
    }
