use Rattle.std.proofs.Common.{◌≡◌, List, IfOk, sym, ap, subst, ◌∙◌}
use Rattle.std.specs.List.{list_all, list_any}
use Rattle.event_tree.specs.Tree.{value_of}
use Rattle.conditions.specs.Truth.{truth_of}
use Rattle.conditions.specs.declared.node.Node.{Node}
use Rattle.conditions.proofs.Truths.{truth-And, truth-Or}
use Rattle.conditions.proofs.node.+asked.Goals as goal

pub Node::holds-returns-in-And : goal.Node::holds-returns-in-And
Node::holds-returns-in-And t c =
    let tree = value_of c.args.tree.now in
    let meant : list_all (λ node. truth_of node tree) c.deref-in-And.result.now ≡ truth_of c.args.self.now tree =
    ap (λ (l : List Node). list_all (λ node. truth_of node tree) l) c.deref-in-And.ensures.value
    ∙ sym (truth-And c.in-And.nodes tree) ∙ ap (λ (n : Node). truth_of n tree) (sym c.in-And.is) in
    subst (λ b. IfOk c.all_hold.result (λ truth. truth ≡ b)) meant c.all_hold.ensures

pub Node::holds-returns-in-Or : goal.Node::holds-returns-in-Or
Node::holds-returns-in-Or t c =
    let tree = value_of c.args.tree.now in
    let meant : list_any (λ node. truth_of node tree) c.deref-in-Or.result.now ≡ truth_of c.args.self.now tree =
    ap (λ (l : List Node). list_any (λ node. truth_of node tree) l) c.deref-in-Or.ensures.value
    ∙ sym (truth-Or c.in-Or.nodes tree) ∙ ap (λ (n : Node). truth_of n tree) (sym c.in-Or.is) in
    subst (λ b. IfOk c.some_hold.result (λ truth. truth ≡ b)) meant c.some_hold.ensures
