-- The ids of inputs, one more after the others.
use Rattle.std.proofs.Common.{◌≡◌, ℕ, ◌+◌, Option, List, [], ◌∷◌, ◌++◌, refl, ap, ◌∙◌}
use Rattle.event_tree.specs.declared.input_rule.InputRule.{InputRule}
use Rattle.toml.specs.Data.{Data, Items, item}
use Rattle.beat_config.specs.declared.settings_error.SettingsError.{SettingsError}
use Rattle.beat_config.specs.Finding.{note_all}
use Rattle.beat_config.specs.Input.{ids_of, id_in, input_findings, inputs_item_findings}
use Rattle.beat_config.specs.Path.{member_path}
use Rattle.beat_config.specs.Table.{members_of}
use Rattle.beat_config.proofs.Chain.{then}

pub ids_push : (rules : List InputRule) (rule : InputRule) → ids_of (rules ++ rule ∷ []) ≡ ids_of rules ++ rule.id ∷ []
unfolding ids_of
ids_push [] rule = refl
ids_push (first ∷ rules) rule = ap (λ ids. first.id ∷ ids) (ids_push rules rule)

pub ids_none : ids_of [] ≡ []
unfolding ids_of
ids_none = refl

-- one input more is noted
pub inputs_told : (key : List ℕ) (number : ℕ) (rules : List InputRule) (rule : InputRule) (value : Data) (rest : Items) (a b : Option SettingsError)
    → b ≡ note_all a (input_findings (member_path key number) (ids_of rules) value) → rule.id ≡ id_in (members_of value)
    → note_all b (inputs_item_findings key (number + 1) (ids_of (rules ++ rule ∷ [])) rest)
    ≡ note_all a (inputs_item_findings key number (ids_of rules) (item value rest))
inputs_told key number rules rule value rest a b first same =
    let ids : ids_of (rules ++ rule ∷ []) ≡ ids_of rules ++ id_in (members_of value) ∷ [] =
    ids_push rules rule ∙ ap (λ id. ids_of rules ++ id ∷ []) same in
    ap (λ ids. note_all b (inputs_item_findings key (number + 1) ids rest)) ids
    ∙ then a b _ (input_findings (member_path key number) (ids_of rules) value)
    (inputs_item_findings key (number + 1) (ids_of rules ++ id_in (members_of value) ∷ []) rest) first refl
