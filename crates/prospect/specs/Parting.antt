-- For private clauses: one listed file more, by the set of the keys of those that are followed (this project's profile).
use Rattle.std.specs.Prelude.{◌≡◌, ◌⊎◌, ◌↔◌, ℕ, Bool, true, not, List, [], ◌∷◌, ◌++◌, IsTrue, Option, None, Some}
use Rattle.std.specs.BTreeSet.{BTreeSet, Updates, contains}
use Rattle.wire_base.specs.KeyOrder.{compare}
use Rattle.prospect.specs.declared.parted.Parted.{Parted}
use Rattle.prospect.specs.declared.listed.Listed.{Listed}
use Rattle.prospect.specs.Doubled.{HaveKey}

-- the set has the keys of these files, and no other
abbrev pub HasKeysOf : List Listed → BTreeSet (List ℕ) → Type 0
HasKeysOf files keys = (key : List ℕ) → IsTrue (contains compare keys key) ↔ HaveKey files (Some key)

-- the key is in the set, and it is answered whether it is new there; if a file has none the set stays, and it is answered to be new
abbrev pub AddsKey : Option (List ℕ) → BTreeSet (List ℕ) → BTreeSet (List ℕ) → Bool → Type 0
AddsKey None old new added = (added ≡ true) × (new ≡ old)
AddsKey (Some key) old new added = (added ≡ not (contains compare old key)) × Updates compare old new key true

-- the file was put after the doubled ones if a followed one has its key, and else after those that are followed
abbrev pub PartsOne : Listed → Parted → Parted → Type 0
PartsOne one old new =
    (HaveKey old.files.items one.key × (new.files.items ≡ old.files.items) × (new.doubled.items ≡ old.doubled.items ++ one ∷ []))
    ⊎ ((¬ (HaveKey old.files.items one.key)) × (new.files.items ≡ old.files.items ++ one ∷ []) × (new.doubled.items ≡ old.doubled.items))
