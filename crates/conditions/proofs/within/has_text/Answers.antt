use Rattle.std.proofs.Common.{◌≡◌, sym, ap, ◌∙◌}
use Rattle.std.specs.List.{list_any}
use Rattle.event_tree.specs.Tree.{value_of}
use Rattle.conditions.specs.Asked.{has_text, is_text_with}
use Rattle.conditions.proofs.Texts.{listed_back}
use Rattle.conditions.proofs.within.has_text.Goals as goal

pub returns-in-List : goal.returns-in-List
returns-in-List c =
    c.some_has_text.ensures ∙ ap (list_any (is_text_with c.args.text.now)) (sym (listed_back c.in-List.members)) ∙ sym (ap (λ v. has_text c.args.text.now (value_of v)) c.in-List.is)
