-- What the listings of a scan showed of one path: if they showed it with several native numbers, as of files that took
-- the path one after the other, the first entry of each (this project's profile).
use Rattle.std.specs.Prelude.{◌≡◌, ◌⊎◌, ℕ, List, [], ◌∷◌, ◌++◌, Any, Option}
use Rattle.event_tree.specs.declared.input_rule.IdentityRule.{IdentityRule}
use Rattle.event_tree.specs.declared.input_rule.IdentityRule.TheVariants.{Fingerprint, Native, Path}
use Rattle.outside.specs.declared.entry.Entry.{Entry}
use Rattle.prospect.specs.declared.showing.Showing.{Showing}

abbrev pub entries_of : Showing → List Entry
entries_of showing = showing.first ∷ showing.others.items

-- one has these numbers, or none if it is asked for none
abbrev pub HasNumbers : List Entry → Option (ℕ × ℕ) → Type 0
HasNumbers entries numbers = Any (λ one. one.native ≡ numbers) entries

-- no two have the same numbers
abbrev pub DifferInNumbers : List Entry → Type 0
DifferInNumbers [] = Unit {0}
DifferInNumbers (one ∷ others) = (¬ (HasNumbers others one.native)) × DifferInNumbers others

-- the entry comes after them, unless one with its numbers is there
abbrev pub AddsEntry : Entry → List Entry → List Entry → Type 0
AddsEntry entry old new =
    (HasNumbers old entry.native × (new ≡ old))
    ⊎ ((¬ (HasNumbers old entry.native)) × (new ≡ old ++ entry ∷ []))

-- those that an input with this identity distinguishes
abbrev pub entries_for : IdentityRule → Showing → List Entry
entries_for (Fingerprint offset count) showing = showing.first ∷ []
entries_for Native showing = entries_of showing
entries_for Path showing = showing.first ∷ []
