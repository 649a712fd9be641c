-- Weights of lists put together.
use Rattle.std.proofs.Common.{◌≡◌, ℕ, zero, suc, ◌+◌, List, [], ◌∷◌, ◌++◌, map, All, refl, arith}
use Rattle.std.specs.List.{flat_map}
use Rattle.pass_sums.specs.Weight.{weigh}

pub weigh-append : {A : Type 0} (h : A → ℕ) (xs ys : List A) → weigh h (xs ++ ys) ≡ weigh h xs + weigh h ys
weigh-append h [] ys = omega arith
weigh-append h (x ∷ xs) ys = omega (arith, weigh-append h xs ys)

pub weigh-map : {A B : Type 0} (h : B → ℕ) (f : A → B) (xs : List A) → weigh h (map f xs) ≡ weigh (λ x. h (f x)) xs
weigh-map h f [] = refl
weigh-map h f (x ∷ xs) = omega (arith, weigh-map h f xs)

-- if all of a list weighs nothing, each item does
pub weightless : {A : Type 0} (h : A → ℕ) (xs : List A) → weigh h xs ≡ 0 → All (λ x. h x ≡ 0) xs
weightless h [] none k d inside = absurd (omega arith)
weightless h (x ∷ xs) none zero d inside = omega arith
weightless h (x ∷ xs) none (suc k) d inside = weightless h xs (omega arith) k d (omega arith)

pub weigh-flat_map : {A B : Type 0} (h : B → ℕ) (f : A → List B) (xs : List A) → weigh h (flat_map f xs) ≡ weigh (λ x. weigh h (f x)) xs
weigh-flat_map h f [] = refl
weigh-flat_map h f (x ∷ xs) = omega (arith, weigh-append h (f x) (flat_map f xs), weigh-flat_map h f xs)
