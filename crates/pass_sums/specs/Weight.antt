-- Lists that have the same items, each as often, in whatever order (this project's profile).
use Rattle.std.specs.Prelude.{◌≡◌, ℕ, ◌+◌, List, [], ◌∷◌}

-- the weights of the items, added up
abbrev pub weigh : {A : Type 0} → (A → ℕ) → List A → ℕ
weigh h [] = 0
weigh h (x ∷ xs) = h x + weigh h xs

-- the same items, each as often: however items are weighed, both lists weigh the same
abbrev pub AsOften : {A : Type 0} → List A → List A → Type 0
AsOften {A} xs ys = (h : A → ℕ) → weigh h xs ≡ weigh h ys
