-- Which rows are removed (Filebeat reference, filestream input, `clean_removed`; this project's profile): those of an input that cleans
-- them, if no listed file has their key, and the key of each listed file is known; that a file's key is not known keeps all rows.
use Rattle.std.specs.Prelude.{◌≡◌, ◌↔◌, ℕ, false, true, All, Any, IsSome, IsTrue, List, Some}
use Rattle.std.specs.BTreeSet.{BTreeSet, contains}
use Rattle.event_tree.specs.declared.input_rule.InputRule.{InputRule}
use Rattle.kept_rows.specs.Followed.{IsKeyOf}
use Rattle.prospect.specs.declared.listed.Listed.{Listed}
use Rattle.wire_base.specs.KeyOrder.{compare}

-- the key is of an input that cleans
abbrev pub IsCleaned : List InputRule → List ℕ → Type 0
IsCleaned inputs key = Any (λ rule. (rule.clean_removed ≡ true) × IsKeyOf rule.id key) inputs

-- a listed file has the key
abbrev pub IsListedKey : List Listed → List ℕ → Type 0
IsListedKey listed key = Any (λ one. one.key ≡ Some key) listed

pub record IsRemoved (inputs : List InputRule) (listed : List Listed) (key : List ℕ) : Type 0 where
  pub all_known : All (λ one. IsSome one.key) listed
  pub cleaned : IsCleaned inputs key
  pub unlisted : ¬ (IsListedKey listed key)

-- ---- what is asked of the inputs, the listed files and the set of their keys

-- a row may go at all: some input cleans, and the key of each listed file is known
pub record SomeMayGo (inputs : List InputRule) (listed : List Listed) : Type 0 where
  pub cleans : Any (λ rule. rule.clean_removed ≡ true) inputs
  pub known : All (λ one. IsSome one.key) listed

-- the set has the keys of the listed files, and no other
abbrev pub HasListedKeys : List Listed → BTreeSet (List ℕ) → Type 0
HasListedKeys listed keys = (key : List ℕ) → IsTrue (contains compare keys key) ↔ IsListedKey listed key

-- the key is of an input that cleans, and not in the set
pub record IsCleanedBeside (inputs : List InputRule) (keys : BTreeSet (List ℕ)) (key : List ℕ) : Type 0 where
  pub cleaned : IsCleaned inputs key
  pub absent : contains compare keys key ≡ false
