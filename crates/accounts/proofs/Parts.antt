-- A list is parted before an item that is there.
use Rattle.std.proofs.Common.{◌≡◌, ◌⊎◌, inl, inr, List, [], ◌∷◌, ◌++◌, Contains, ap}
use Rattle.ship_core.proofs.Members.{none_there, there_cases}

pub parts_at : {A : Type 0} (xs : List A) (x : A) → Contains xs x → (front : List A) × (behind : List A) × (xs ≡ front ++ x ∷ behind)
parts_at [] x there = absurd (none_there x there)
parts_at (first ∷ xs) x there = by_case (there_cases first x xs there) (parts_at xs x)
  where
    by_case : (first ≡ x) ⊎ Contains xs x → (Contains xs x → (front : List _) × (behind : List _) × (xs ≡ front ++ x ∷ behind)) →
        (front : List _) × (behind : List _) × (first ∷ xs ≡ front ++ x ∷ behind)
    by_case (inl same) later = ([], xs, λ k. same k ∷ xs)
    by_case (inr behind) later = let parts = later behind in (first ∷ parts.0, parts.1, ap (λ l. first ∷ l) parts.2)
