-- Two lists, member by member (this project's profile).
use Rattle.std.specs.Prelude.{◌⊎◌, List, [], ◌∷◌}

-- each of the first has this relation to that at its place in the second, which is as long
abbrev pub Pairs : {A B : Type 0} → (A → B → Type 0) → List A → List B → Type 0
Pairs R [] [] = Unit {0}
Pairs R [] (y ∷ ys) = ⊥
Pairs R (x ∷ xs) [] = ⊥
Pairs R (x ∷ xs) (y ∷ ys) = R x y × Pairs R xs ys

-- some of the first has this relation to that at its place in the second
abbrev pub SomePair : {A B : Type 0} → (A → B → Type 0) → List A → List B → Type 0
SomePair R [] ys = ⊥
SomePair R (x ∷ xs) [] = ⊥
SomePair R (x ∷ xs) (y ∷ ys) = R x y ⊎ SomePair R xs ys

-- some member is so
abbrev pub SomeOf : {A : Type 0} → (A → Type 0) → List A → Type 0
SomeOf P [] = ⊥
SomeOf P (x ∷ xs) = P x ⊎ SomeOf P xs
