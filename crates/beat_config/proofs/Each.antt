-- A loop over the members of a list, one member more.
use Rattle.std.proofs.Common.{◌≡◌, ℕ, ◌+◌, ◌≤◌, List, [], ◌∷◌, ◌++◌, Option, length, drop, refl, sym, ap, ◌∙◌, subst, append_assoc}
use Rattle.std.proofs.Math.ListN.{drop_of_length-le}
use Rattle.std.proofs.lemmas.List.{append-nil}
use Rattle.toml.specs.declared.value.Value.{Value}
use Rattle.toml.specs.Data.{Data, Items, no_items, item}
use Rattle.toml.specs.View.{items_view}
use Rattle.beat_config.specs.declared.settings_error.SettingsError.{SettingsError}
use Rattle.beat_config.specs.Each.{each_findings, AreEach}
use Rattle.beat_config.specs.Finding.{note_all}
use Rattle.beat_config.specs.Path.{member_path}
use Rattle.beat_config.proofs.Chain.{then}

pub each_told : (here : List ℕ → Data → List SettingsError) (key : List ℕ) (number : ℕ) (value : Data) (rest whole : Items) (a b : Option SettingsError)
    → b ≡ note_all a (here (member_path key number) value) → whole ≡ item value rest
    → note_all b (each_findings here key (number + 1) rest) ≡ note_all a (each_findings here key number whole)
each_told here key number value rest whole a b first split =
    then a b _ (here (member_path key number) value) (each_findings here key (number + 1) rest) first refl
    ∙ ap (λ xs. note_all a (each_findings here key number xs)) (sym split)

pub each_more : {R : Type 0} (P : Data → R → Type 0) (left whole rest : Items) (value : Data) (rules : List R) (rule : R)
    → left ≡ item value rest → ((later : List R) → AreEach P left later → AreEach P whole (rules ++ later)) → P value rule
    → (later : List R) → AreEach P rest later → AreEach P whole ((rules ++ rule ∷ []) ++ later)
each_more {R} P left whole rest value rules rule split so_far p later h =
    subst (λ rs. AreEach P whole rs) (sym (append_assoc rules (rule ∷ []) later))
    (so_far (rule ∷ later) (subst (λ xs. AreEach P xs (rule ∷ later)) (sym split) (p, h)))

pub each_all : {R : Type 0} (P : Data → R → Type 0) (left whole : Items) (rules : List R)
    → left ≡ no_items → ((later : List R) → AreEach P left later → AreEach P whole (rules ++ later)) → AreEach P whole rules
each_all {R} P left whole rules none so_far =
    subst (λ rs. AreEach P whole rs) (append-nil rules) (so_far [] (subst (λ xs. AreEach P xs []) (sym none) tt))

pub none_left : (values : List Value) (n : ℕ) → length values ≤ n → items_view (drop n values) ≡ no_items
none_left values n past = ap items_view (drop_of_length-le values past)
