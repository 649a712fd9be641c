use Rattle.std.proofs.Common.{◌≡◌, ◌+◌, ◌∷◌, [], ◌++◌, drop, sym, ap, ◌∙◌, append_assoc}
use Rattle.toml.specs.Data.{item}
use Rattle.toml.specs.View.{view, items_view}
use Rattle.toml.proofs.Views.{items_view-drop}
use Rattle.beat_config.specs.Finding.{seen_of, note_all}
use Rattle.beat_config.specs.Input.{ids_of, input_findings, inputs_in, inputs_item_findings}
use Rattle.beat_config.specs.Path.{member_path}
use Rattle.beat_config.proofs.Inputs.{inputs_told}
use Rattle.beat_config.proofs.noted.Noted.input_items.Goals as goal

pub loop-number-preserved : goal.loop-number-preserved
loop-number-preserved c =
    let l = c.loop-number in
    let key = c.args.key.now in
    let items = c.args.items.now in
    let rules = l.rules.items in
    let rule = c.in_ok-rule.rule in
    let value = view c.index-items-number.result in
    let rest = items_view (drop (l.number + 1) items) in
    let named : c.as_str-in-loop-number.result.now ≡ member_path key l.number =
    c.as_str-in-loop-number.ensures ∙ c.in_ok-path.ensures ∙ ap (λ k. member_path k l.number) c.as_str.ensures in
    let first : seen_of c.input.new.self ≡ note_all (seen_of l.self) (input_findings (member_path key l.number) (ids_of rules) value) =
    c.in_ok-rule.ensures.findings ∙ (λ i. note_all (seen_of l.self) (input_findings (named i) (ids_of (c.deref.ensures.value i)) value)) in
    let here : items_view (drop l.number items) ≡ item value rest =
    items_view-drop items l.number c.index-items-number.result c.loop-number-test.true
    ∙ ap (λ v. item (view v) rest) (sym c.index-items-number.is) in
    let pushed : c.push.new.self.items ≡ rules ++ rule ∷ [] = c.in_ok-push.ensures.items in
    record {
      told =
          ap (λ xs. note_all (seen_of c.input.new.self) (inputs_item_findings key (l.number + 1) (ids_of xs) rest)) pushed
          ∙ inputs_told key l.number rules rule value rest _ _ first c.in_ok-rule.ensures.id
          ∙ ap (λ xs. note_all (seen_of l.self) (inputs_item_findings key l.number (ids_of rules) xs)) (sym here)
          ∙ l.invariant.told;
      rules =
          ap (λ xs. xs ++ inputs_in rest) pushed
          ∙ append_assoc rules (rule ∷ []) (inputs_in rest)
          ∙ ap (λ r. rules ++ r ∷ inputs_in rest) c.in_ok-rule.ensures.value
          ∙ ap (λ xs. rules ++ inputs_in xs) (sym here)
          ∙ l.invariant.rules;
    }
