-- The members of a list, one by one: what is wrong with them, and what they stand for (this project's profile).
use Rattle.std.specs.Prelude.{ℕ, ◌+◌, List, [], ◌∷◌, ◌++◌}
use Rattle.toml.specs.Data.{Data, Items, no_items, item}
use Rattle.beat_config.specs.declared.settings_error.SettingsError.{SettingsError}
use Rattle.beat_config.specs.Path.{member_path}

-- the members of a list, each by `here`, of which the first has this number
abbrev pub each_findings : (List ℕ → Data → List SettingsError) → List ℕ → ℕ → Items → List SettingsError
each_findings here key number no_items = []
each_findings here key number (item value items) = here (member_path key number) value ++ each_findings here key (number + 1) items

-- the rules are those of the members of a list, as many and in their order
abbrev pub AreEach : {R : Type 0} → (Data → R → Type 0) → Items → List R → Type 0
AreEach IsHere no_items [] = Unit {0}
AreEach IsHere no_items (rule ∷ rules) = ⊥
AreEach IsHere (item value items) [] = ⊥
AreEach IsHere (item value items) (rule ∷ rules) = IsHere value rule × AreEach IsHere items rules
