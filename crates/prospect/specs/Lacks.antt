-- Which keys of valid settings ask for what is not built (this project's profile).
use Rattle.std.specs.Prelude.{◌≡◌, ℕ, ◌+◌, Bool, true, false, ◌==◌, List, [], ◌∷◌, ◌++◌, All, Contains, codes, decimal}
use Rattle.std.specs.Ordering.{is_lt}
use Rattle.event_tree.specs.declared.input_rule.InputRule.{InputRule}
use Rattle.event_tree.specs.declared.settings.Settings.{Settings}
use Rattle.wire_base.specs.KeyOrder.{compare}

-- the key, if what it asks for is not built
abbrev pub unless_built : Bool → List ℕ → List (List ℕ)
unless_built true key = []
unless_built false key = key ∷ []

-- the key of a setting of the input of this number, counted from 0
abbrev pub input_key : ℕ → List ℕ → List ℕ
input_key number name = codes "inputs." ++ decimal number ++ codes "." ++ name

abbrev pub lacks_of_input : ℕ → InputRule → List (List ℕ)
lacks_of_input number input =
    unless_built (input.ignore_older == 0) (input_key number (codes "ignore_older"))
    ++ unless_built (input.clean_inactive == 0) (input_key number (codes "clean_inactive"))

-- those of the inputs from this number on
abbrev pub lacks_of_inputs : ℕ → List InputRule → List (List ℕ)
lacks_of_inputs number [] = []
lacks_of_inputs number (input ∷ inputs) = lacks_of_input number input ++ lacks_of_inputs (number + 1) inputs

-- the keys by which the settings ask for what is not built, in the order of the settings
abbrev pub lacks_of : Settings → List (List ℕ)
lacks_of settings = lacks_of_inputs 0 settings.inputs

-- the key is unsupported, and no unsupported key comes before it in byte order
pub record IsFirstLack (settings : Settings) (key : List ℕ) : Type 0 where
  pub lacking : Contains (lacks_of settings) key
  pub first : All (λ other. is_lt (compare other key) ≡ false) (lacks_of settings)
